use Rattle.lot_value.proofs.Lemmas.{CanApply, Done, ReuseTicket, Some, Stays, Valued, ap, done-stays, graph_after, live_of, refl, seen, set_number, stays-again, subst, sym, with_tickets, ◌∙◌, ◌≡◌}
use Rattle.lot_value.proofs.valued_graph.ValuedGraph.reuse_ticket.Goals as goal
use Rattle.lot_value.proofs.valued_graph.ValuedGraph.reuse_ticket.Goals.{After-issue_again}

-- the ticket was issued, and nothing else changed
issued : (c : After-issue_again)
    → (c.issue_again.new.self ≡ graph_after c.self.inside.graph (ReuseTicket c.args.number c.args.ticket)) × Stays
    c.issue_again.new.self c.self.inside.active c.self.inside.values (live_of c.self.inside.graph c.self.inside.active)
issued c =
    let i = c.self.inside in
    let t = c.args.ticket in
    let (gap, issuer, amount, free) = subst (λ (x : Valued). CanApply x.now x.live (ReuseTicket c.args.number t))
    (sym c.self.view_is) c.requires.allowed in
    let made : c.issue_again.new.self ≡ graph_after i.graph (ReuseTicket c.args.number t) =
    c.issue_again.ensures.issued ∙ ap (λ to. with_tickets i.graph
    (set_number i.graph.funding.tickets c.args.number (Some (record t { target = to })))) (sym free) in
    (made, stays-again i.graph c.issue_again.new.self i.active i.values c.self.invariant c.args.number t gap free made c.issue_again.ensures.sound c.issue_again.ensures.fits)

-- so the change is made
made : (c : After-issue_again) → Done (ReuseTicket c.args.number c.args.ticket)
    (seen c.self.inside.graph c.self.inside.active c.self.inside.values)
    (seen c.issue_again.new.self c.self.inside.active c.self.inside.values)
made c = let (is, stays) = issued c in done-stays (ReuseTicket c.args.number c.args.ticket) c.self.inside.graph
    c.issue_again.new.self c.self.inside.active c.self.inside.values is refl tt stays

pub invariant_of-self : goal.invariant_of-self
invariant_of-self c = (issued c).1.together

pub returns-clause-applied : goal.returns-clause-applied
returns-clause-applied c = rw (← c.self.view_is) (made c).applied_to

pub returns-clause-stale : goal.returns-clause-stale
returns-clause-stale c = rw (← c.self.view_is) (made c).stale
