use Rattle.lot_value.proofs.Lemmas.{Done, DropCurrency, Stays, done-stays, false, live_of, refl, seen, slice_set, stays-currencies}
use Rattle.lot_value.proofs.valued_graph.ValuedGraph.drop_currency.Goals as goal
use Rattle.lot_value.proofs.valued_graph.ValuedGraph.drop_currency.Goals.{After-remove_currency}

-- nothing else changed
stays : (c : After-remove_currency) → Stays c.remove_currency.new.self c.self.inside.active c.self.inside.values
    (live_of c.self.inside.graph c.self.inside.active)
stays c =
    stays-currencies c.self.inside.graph c.remove_currency.new.self c.self.inside.active c.self.inside.values
    c.self.invariant (slice_set c.self.inside.graph.funding.currencies c.args.currency false)
    c.remove_currency.ensures.removed c.remove_currency.ensures.sound c.remove_currency.ensures.fits

-- so the change is made
made : (c : After-remove_currency)
    → Done (DropCurrency c.args.currency) (seen c.self.inside.graph c.self.inside.active c.self.inside.values)
    (seen c.remove_currency.new.self c.self.inside.active c.self.inside.values)
made c = done-stays (DropCurrency c.args.currency) c.self.inside.graph c.remove_currency.new.self c.self.inside.active
    c.self.inside.values c.remove_currency.ensures.removed refl tt (stays c)

pub invariant_of-self : goal.invariant_of-self
invariant_of-self c = (stays c).together

pub returns-clause-applied : goal.returns-clause-applied
returns-clause-applied c = rw (← c.self.view_is) (made c).applied_to

pub returns-clause-stale : goal.returns-clause-stale
returns-clause-stale c = rw (← c.self.view_is) (made c).stale
