use Rattle.lot_graph.proofs.Lemmas.{TicketTable, ap, arith, option_copied, option_flatten, sym, ticket-found, ticket_in, ℕ, ◌%◌, ◌+◌, ◌∙◌}
use Rattle.lot_graph.proofs.tickets.Tickets.get.Goals as goal

pub returns : goal.returns
returns c =
    let s = c.self.inside in
    let n = c.args.number in
    let place : ℕ = (n + 18446744073709551615) % 18446744073709551616 in
    c.ticket.ensures ∙ ap option_flatten (sym (ap option_copied c.in_ok-get.was) ∙ c.get.ensures)
    ∙ sym (ticket-found s.records s.made s.room c.self.invariant n place (omega arith) (omega arith))
    ∙ ap (λ (v : TicketTable). ticket_in v.tickets n) c.self.view_is

pub returns-in_err-get : goal.returns-in_err-get
returns-in_err-get c =
    let s = c.self.inside in
    let n = c.args.number in
    let place : ℕ = (n + 18446744073709551615) % 18446744073709551616 in
    c.from_residual.ensures ∙ ap option_flatten (sym (ap option_copied c.in_err-get.was) ∙ c.get.ensures)
    ∙ sym (ticket-found s.records s.made s.room c.self.invariant n place (omega arith) (omega arith))
    ∙ ap (λ (v : TicketTable). ticket_in v.tickets n) c.self.view_is
