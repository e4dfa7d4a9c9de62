use Rattle.lot_value.proofs.Lemmas.{CanApply, Done, DropTicket, Stays, Valued, done-stays, live_of, refl, seen, stays-destroy, subst, sym}
use Rattle.lot_value.proofs.valued_graph.ValuedGraph.drop_ticket.Goals as goal
use Rattle.lot_value.proofs.valued_graph.ValuedGraph.drop_ticket.Goals.{After-destroy}

-- nothing else changed
stays : (c : After-destroy) → Stays c.destroy.new.self c.self.inside.active c.self.inside.values
    (live_of c.self.inside.graph c.self.inside.active)
stays c =
    let free =
    subst (λ (x : Valued). CanApply x.now x.live (DropTicket c.args.number)) (sym c.self.view_is) c.requires.allowed in
    stays-destroy c.self.inside.graph c.destroy.new.self c.self.inside.active c.self.inside.values c.self.invariant
    c.args.number free c.destroy.ensures.destroyed c.destroy.ensures.sound c.destroy.ensures.fits

-- so the change is made
made : (c : After-destroy)
    → Done (DropTicket c.args.number) (seen c.self.inside.graph c.self.inside.active c.self.inside.values)
    (seen c.destroy.new.self c.self.inside.active c.self.inside.values)
made c = done-stays (DropTicket c.args.number) c.self.inside.graph c.destroy.new.self c.self.inside.active
    c.self.inside.values c.destroy.ensures.destroyed refl tt (stays c)

pub invariant_of-self : goal.invariant_of-self
invariant_of-self c = (stays c).together

pub returns-clause-applied : goal.returns-clause-applied
returns-clause-applied c = rw (← c.self.view_is) (made c).applied_to

pub returns-clause-stale : goal.returns-clause-stale
returns-clause-stale c = rw (← c.self.view_is) (made c).stale
