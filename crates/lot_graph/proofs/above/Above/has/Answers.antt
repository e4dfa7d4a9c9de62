use Rattle.lot_graph.proofs.Lemmas.{Currency, FoundNodes, HasFound, found-test, subst, sym, ◌∙◌, ◌≤◌}
use Rattle.lot_graph.proofs.above.Above.has.Goals as goal

pub returns : goal.returns
returns c =
    let s = c.self.inside in
    let currency = c.args.currency in
    let within = subst (λ (v : FoundNodes). currency ≤ v.layout.currencies) (sym c.self.view_is) c.requires.currency in
    let test =
    found-test s.layout s.found (Currency currency) c.list_of-place.result c.list_of.result within
    c.list_of-place.ensures c.self.invariant c.list_of.ensures.consistent
    c.list_of.ensures.found c.list_of.ensures.free in (
      λ yes. subst (λ (v : FoundNodes). HasFound v currency) c.self.view_is (test.0 (sym c.is_some.ensures ∙ yes)),
      λ there. c.is_some.ensures ∙ test.1 (subst (λ (v : FoundNodes). HasFound v currency) (sym c.self.view_is) there),
    )
