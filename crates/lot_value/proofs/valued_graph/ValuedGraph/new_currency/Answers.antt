use Rattle.lot_value.proofs.Lemmas.{CanApply, Done, NewCurrency, Stays, Valued, done-stays, live_of, made-in, refl, seen, stays-currencies, subst, sym, true, with_currencies, [], ◌++◌, ◌∷◌, ◌≡◌}
use Rattle.lot_value.proofs.valued_graph.ValuedGraph.new_currency.Goals as goal
use Rattle.lot_value.proofs.valued_graph.ValuedGraph.new_currency.Goals.{After-make_currency}

-- the currency was made, and nothing else changed
pushed : (c : After-make_currency)
    → (c.make_currency.new.self
    ≡ with_currencies c.self.inside.graph (c.self.inside.graph.funding.currencies ++ true ∷ []))
    × Stays c.make_currency.new.self c.self.inside.active c.self.inside.values
    (live_of c.self.inside.graph c.self.inside.active)
pushed c =
    let i = c.self.inside in
    let room = subst (λ (x : Valued). CanApply x.now x.live NewCurrency) (sym c.self.view_is) c.requires.allowed in
    let one = made-in c.make_currency.result _ _ _ c.make_currency.ensures.number c.make_currency.ensures.made room in
    (one, stays-currencies i.graph c.make_currency.new.self i.active i.values c.self.invariant (i.graph.funding.currencies ++ true ∷ []) one c.make_currency.ensures.sound c.make_currency.ensures.fits)

-- so the change is made
made : (c : After-make_currency) → Done NewCurrency (seen c.self.inside.graph c.self.inside.active c.self.inside.values)
    (seen c.make_currency.new.self c.self.inside.active c.self.inside.values)
made c = let (is, stays) = pushed c in done-stays NewCurrency c.self.inside.graph c.make_currency.new.self
    c.self.inside.active c.self.inside.values is refl tt stays

pub invariant_of-self : goal.invariant_of-self
invariant_of-self c = (pushed c).1.together

pub returns-clause-applied : goal.returns-clause-applied
returns-clause-applied c = rw (← c.self.view_is) (made c).applied_to

pub returns-clause-stale : goal.returns-clause-stale
returns-clause-stale c = rw (← c.self.view_is) (made c).stale
