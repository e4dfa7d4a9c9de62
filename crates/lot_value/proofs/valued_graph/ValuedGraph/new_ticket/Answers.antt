use Rattle.lot_value.proofs.Lemmas.{CanApply, Done, NewTicket, Some, Stays, Valued, ap, done-stays, graph_after, live_of, made-in, refl, seen, stays-issue, subst, sym, with_tickets, [], ◌++◌, ◌∙◌, ◌∷◌, ◌≡◌}
use Rattle.lot_value.proofs.valued_graph.ValuedGraph.new_ticket.Goals as goal
use Rattle.lot_value.proofs.valued_graph.ValuedGraph.new_ticket.Goals.{After-issue}

-- the ticket was issued, and nothing else changed
issued : (c : After-issue) → (c.issue.new.self ≡ graph_after c.self.inside.graph (NewTicket c.args.ticket)) × Stays
    c.issue.new.self c.self.inside.active c.self.inside.values (live_of c.self.inside.graph c.self.inside.active)
issued c =
    let i = c.self.inside in
    let t = c.args.ticket in
    let (issuer, amount, free, room) =
    subst (λ (x : Valued). CanApply x.now x.live (NewTicket t)) (sym c.self.view_is) c.requires.allowed in
    let made = made-in c.issue.result _ _ _ c.issue.ensures.number c.issue.ensures.issued room in
    (made ∙ ap (λ to. with_tickets i.graph (i.graph.funding.tickets ++ Some (record t { target = to }) ∷ [])) (sym free), stays-issue i.graph c.issue.new.self i.active i.values c.self.invariant t.amount t.issuer made c.issue.ensures.sound c.issue.ensures.fits)

-- so the change is made
made : (c : After-issue)
    → Done (NewTicket c.args.ticket) (seen c.self.inside.graph c.self.inside.active c.self.inside.values)
    (seen c.issue.new.self c.self.inside.active c.self.inside.values)
made c = let (is, stays) = issued c in done-stays (NewTicket c.args.ticket) c.self.inside.graph c.issue.new.self
    c.self.inside.active c.self.inside.values is refl tt stays

pub invariant_of-self : goal.invariant_of-self
invariant_of-self c = (issued c).1.together

pub returns-clause-applied : goal.returns-clause-applied
returns-clause-applied c = rw (← c.self.view_is) (made c).applied_to

pub returns-clause-stale : goal.returns-clause-stale
returns-clause-stale c = rw (← c.self.view_is) (made c).stale
