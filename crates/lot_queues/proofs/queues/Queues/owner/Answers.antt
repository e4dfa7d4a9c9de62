use Rattle.lot_queues.proofs.Lemmas.{None, arith, get_or_default, in-mutexes, opened, owner-is, sym, ◌∙◌}
use Rattle.lot_queues.proofs.queues.Queues.owner.Goals as goal

pub index-requires : goal.index-requires
index-requires c =
    let held = opened _ _ c.self.view_is c.self.invariant in
    let within = in-mutexes held _ c.requires in
    omega (arith, within.0, within.1, held.laid.owners)

pub returns : goal.returns
returns c =
    let held = opened _ _ c.self.view_is c.self.invariant in
    let within = in-mutexes held _ c.requires in
    (rw c.index_of.ensures at c.index.ensures) ∙ get_or_default c.self.inside.owners.items _ _ None
    (omega (arith, within.0, within.1, held.laid.owners)) ∙ sym (owner-is held _ c.requires)
