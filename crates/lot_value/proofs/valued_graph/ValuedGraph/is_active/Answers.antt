use Rattle.lot_value.proofs.Lemmas.{None, Some, active-there, live_of, sym, ticket-target, ◌∙◌, ◌≡◌}
use Rattle.lot_value.proofs.valued_graph.ValuedGraph.is_active.Goals as goal

pub is_active-requires : goal.is_active-requires
is_active-requires c =
    let w = c.self.inside.graph in
    let at = sym c.ticket.ensures.ticket ∙ c.in-Some.is in
    record { target = (w, live_of w c.self.inside.active, c.args.ticket, c.self.invariant.kept, ticket-target w.funding c.args.ticket c.in-Some.record at) }

pub returns-in-Some : goal.returns-in-Some
returns-in-Some c =
    let w = c.self.inside.graph in
    let at = sym c.ticket.ensures.ticket ∙ c.in-Some.is in
    rw (← c.self.view_is) (c.is_active.ensures.active w (live_of w c.self.inside.active) c.args.ticket
    c.self.invariant.kept (ticket-target w.funding c.args.ticket c.in-Some.record at))

pub returns-in-None : goal.returns-in-None
returns-in-None c =
    let w = c.self.inside.graph in
    rw (← c.self.view_is) (
      λ no. cc,
      λ is.
          let (t, node, here, funds) = active-there w.funding (live_of w c.self.inside.active) c.args.ticket is in
          let wrong : None ≡ Some t = sym c.in-None.is ∙ c.ticket.ensures.ticket ∙ here in
          cc,
    )
