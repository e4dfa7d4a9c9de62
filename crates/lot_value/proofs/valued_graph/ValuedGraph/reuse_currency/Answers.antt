use Rattle.lot_value.proofs.Lemmas.{Done, ReuseCurrency, Stays, done-stays, live_of, refl, seen, slice_set, stays-currencies, true}
use Rattle.lot_value.proofs.valued_graph.ValuedGraph.reuse_currency.Goals as goal
use Rattle.lot_value.proofs.valued_graph.ValuedGraph.reuse_currency.Goals.{After-make_currency_again}

-- nothing else changed
stays : (c : After-make_currency_again) → Stays c.make_currency_again.new.self c.self.inside.active c.self.inside.values
    (live_of c.self.inside.graph c.self.inside.active)
stays c =
    stays-currencies c.self.inside.graph c.make_currency_again.new.self c.self.inside.active c.self.inside.values
    c.self.invariant
    (slice_set c.self.inside.graph.funding.currencies c.args.currency true) c.make_currency_again.ensures.made
    c.make_currency_again.ensures.sound c.make_currency_again.ensures.fits

-- so the change is made
made : (c : After-make_currency_again)
    → Done (ReuseCurrency c.args.currency) (seen c.self.inside.graph c.self.inside.active c.self.inside.values)
    (seen c.make_currency_again.new.self c.self.inside.active c.self.inside.values)
made c = done-stays (ReuseCurrency c.args.currency) c.self.inside.graph c.make_currency_again.new.self
    c.self.inside.active c.self.inside.values c.make_currency_again.ensures.made refl tt (stays c)

pub invariant_of-self : goal.invariant_of-self
invariant_of-self c = (stays c).together

pub returns-clause-applied : goal.returns-clause-applied
returns-clause-applied c = rw (← c.self.view_is) (made c).applied_to

pub returns-clause-stale : goal.returns-clause-stale
returns-clause-stale c = rw (← c.self.view_is) (made c).stale
