use Rattle.lot_engine.proofs.Common.{drop, take, without_ticket, ◌++◌, ◌≡◌}
use Rattle.lot_engine.proofs.tickets.NamedTickets.forget.Given as goal

abbrev pub invariant-loop-number : goal.invariant-loop-number
invariant-loop-number l =
    l.number-items ≡ without_ticket l.ticket (take l.number-index l.initial.number-items)
    ++ drop l.number-index l.initial.number-items
