use Rattle.lot_graph.proofs.Lemmas.{LimitedFunding, Some, again_currency-held, ap, arith, false, graph-fits, refl, slice_get, slice_get_within, slice_set, subst, sym, true, with_currencies, ◌≡◌}
use Rattle.lot_graph.proofs.graph.Graph.make_currency_again.Goals as goal

pub invariant_of-self : goal.invariant_of-self
invariant_of-self c = again_currency-held _ c.self.invariant c.args.currency _ refl

pub returns-clause-sound : goal.returns-clause-sound
returns-clause-sound c = (invariant_of-self c).sound

pub returns-clause-fits : goal.returns-clause-fits
returns-clause-fits c = graph-fits _ (invariant_of-self c)

pub index_mut-requires : goal.index_mut-requires
index_mut-requires c =
    let low = slice_get_within c.self.inside.currencies.items c.args.currency false (subst (λ (v : LimitedFunding).
    slice_get v.funding.currencies c.args.currency ≡ Some false) (sym c.self.view_is) c.requires.gap) in
    omega (arith, low)
