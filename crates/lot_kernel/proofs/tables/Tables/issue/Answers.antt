use Rattle.lot_kernel.proofs.Lemmas.{Snapshot, Some, ap, first-ticket, free_tickets, last-ticket, length, none-first, subst, sym, ticket-last, [], ◌++◌, ◌+◌, ◌<◌, ◌∙◌, ◌∷◌}
use Rattle.lot_kernel.proofs.Reusing.{ticket-room}
use Rattle.lot_kernel.proofs.tables.Tables.issue.Goals as goal

pub issue_last-requires-clause-room : goal.issue_last-requires-clause-room
issue_last-requires-clause-room c =
    let s = c.args.self.now.state in
    let none = none-first (free_tickets s) c.in-None.ensures.number in
    subst (λ (x : Snapshot). length x.state.tickets < x.state.limits.tickets) (sym c.in-None.ensures.unchanged)
    (ticket-room s none c.requires.ticket.room)

pub returns-in-Some-clause-number : goal.returns-in-Some-clause-number
returns-in-Some-clause-number c = first-ticket c.args.self.now.state c.in-Some.number c.in-Some.ensures.number

pub returns-in-None-clause-number : goal.returns-in-None-clause-number
returns-in-None-clause-number c =
    let s = c.args.self.now.state in
    c.issue_last.ensures.number ∙ ap (λ (x : Snapshot). length x.state.tickets + 1) c.in-None.ensures.unchanged
    ∙ sym (last-ticket s (none-first (free_tickets s) c.in-None.ensures.number))

pub returns-in-None-clause-issued : goal.returns-in-None-clause-issued
returns-in-None-clause-issued c =
    let old = c.args.self.now in
    let none = none-first (free_tickets old.state) c.in-None.ensures.number in
    let given = none ∙ sym c.in-None.ensures.none in
    c.issue_last.ensures.issued ∙ ap
    (λ (x : Snapshot). record x { state = record x.state { tickets = x.state.tickets ++ Some c.args.ticket ∷ [] } })
    c.in-None.ensures.unchanged
    ∙ ap (λ s. record old { state = s }) (ticket-last old.state c.args.ticket given none)
