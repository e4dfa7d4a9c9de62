use Rattle.lot_value.proofs.Lemmas.{Contains, IsNodeWithin, Known, list-test, list-within, node_count, nodes_of, place-mapped, subst, sym}
use Rattle.lot_value.proofs.values.Values.is_stale.Goals as goal

pub returns : goal.returns
returns c =
    let l = c.self.inside.layout in
    let ps = nodes_of c.self.inside.stale 0 in
    let node = c.args.node in
    let within : IsNodeWithin l node =
    subst (λ (k : Known). IsNodeWithin k.layout node) (sym c.self.view_is) c.requires.node in
    let test = list-test c.self.inside.stale c.list_of.result c.list_of-2.result c.self.invariant.0.one
    c.list_of-2.ensures.found c.list_of-2.ensures.free in
    let mapped = place-mapped l ps node within (list-within c.self.inside.stale (node_count l) c.self.invariant.0) in
    rw (c.is_some.ensures, ← c.self.view_is)
    (λ yes. mapped.0 (subst (Contains ps) c.list_of.ensures (test.0 yes)), λ stale. test.1 (subst (Contains ps) (sym c.list_of.ensures) (mapped.1 stale)))
