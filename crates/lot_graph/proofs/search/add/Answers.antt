use Rattle.lot_graph.proofs.Lemmas.{Contains, IsFree, found-none, found-some, nodes_of, only-list, spread-none, spread-push, subst, sym, ◌≡◌}
use Rattle.lot_graph.proofs.search.add.Goals as goal

pub push_back-requires-clause-free : goal.push_back-requires-clause-free
push_back-requires-clause-free c = found-none c.list_of.result c.is_none.result
    (IsFree c.args.found.now c.args.place) c.is_none.ensures c.if-is_none.true c.list_of.ensures.free

pub returns-then-is_none-clause-spreads : goal.returns-then-is_none-clause-spreads
returns-then-is_none-clause-spreads c = spread-push _ _ c.args.place c.requires.list c.push_back.ensures.pushed
    c.push_back.ensures.consistent c.push_back.ensures.same_size.0 c.push_back.ensures.same_size.1

pub returns-else-is_none-clause-spreads : goal.returns-else-is_none-clause-spreads
returns-else-is_none-clause-spreads c =
    let at = found-some c.list_of.result c.is_none.result (λ list. Contains
    (nodes_of c.args.found.now list) c.args.place) c.is_none.ensures c.if-is_none.false c.list_of.ensures.found in
    spread-none c.args.found.now (λ x. x ≡ c.args.place) (λ x same. subst (Contains (nodes_of c.args.found.now 0))
    (sym same) (only-list c.args.found.now at.0 c.args.place c.requires.list at.1))
