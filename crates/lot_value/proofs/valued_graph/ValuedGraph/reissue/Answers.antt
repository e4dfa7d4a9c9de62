use Rattle.lot_value.proofs.Lemmas.{Some, Stays, Unfunded, Valued, follows-stays, live_of, stays-amount, subst, sym, target_of, ◌≡◌}
use Rattle.lot_value.proofs.valued_graph.ValuedGraph.reissue.Goals as goal
use Rattle.lot_value.proofs.valued_graph.ValuedGraph.reissue.Goals.{After-set_amount}

-- nothing else changed
stays : (c : After-set_amount) → Stays c.set_amount.new.self c.self.inside.active c.self.inside.values
    (live_of c.self.inside.graph c.self.inside.active)
stays c =
    let free = subst (λ (x : Valued). target_of x.now.funding c.args.ticket ≡ Some Unfunded)
    (sym c.self.view_is) c.requires.unfunded in
    stays-amount c.self.inside.graph c.set_amount.new.self c.self.inside.active c.self.inside.values c.self.invariant
    c.args.ticket c.args.amount free c.set_amount.ensures.changed c.set_amount.ensures.sound c.set_amount.ensures.fits

pub invariant_of-self : goal.invariant_of-self
invariant_of-self c = (stays c).together

pub returns : goal.returns
returns c =
    let i = c.self.inside in
    rw (← c.self.view_is)
    (record { follows = follows-stays i.graph c.set_amount.new.self _ i.active i.values c.set_amount.ensures.changed (stays c) })
