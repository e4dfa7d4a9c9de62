use Rattle.lot_value.proofs.Lemmas.{Contains, IsFree, found-free, found-listed, nodes_of, spread-none, spread-push, subst, sym, ◌≡◌}
use Rattle.lot_value.proofs.marking.add.Goals as goal

pub push_back-requires-clause-free : goal.push_back-requires-clause-free
push_back-requires-clause-free c = found-free c.list_of.result c.is_none.result
    (IsFree c.args.stale.now c.args.place) c.is_none.ensures c.if-is_none.true c.list_of.ensures.free

pub returns-then-is_none-clause-spreads : goal.returns-then-is_none-clause-spreads
returns-then-is_none-clause-spreads c = spread-push _ _ c.args.place c.requires.list.one c.push_back.ensures.pushed

pub returns-else-is_none-clause-spreads : goal.returns-else-is_none-clause-spreads
returns-else-is_none-clause-spreads c =
    let at = found-listed c.args.stale.now c.args.place c.list_of.result c.is_none.result c.requires.list.one
    c.is_none.ensures c.if-is_none.false c.list_of.ensures.found in
    spread-none c.args.stale.now (λ x. x ≡ c.args.place)
    (λ x same. subst (Contains (nodes_of c.args.stale.now 0)) (sym same) at)
