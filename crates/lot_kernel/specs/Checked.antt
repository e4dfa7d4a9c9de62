-- The checks of a command, and the effect of one that passes them, by what it refers to.
use Rattle.std.specs.Prelude.{◌≡◌, ◌<◌, ◌≤◌, ⊤, true, false, None, Some, [], Result, Ok, Err, is_some, length, map, slice_get}
use Rattle.lot_machine.specs.declared.command.Command.{Command}
use Rattle.lot_machine.specs.declared.record.Thread.{Thread}
use Rattle.lot_machine.specs.declared.refusal.Refusal.{Refusal}
use Rattle.lot_machine.specs.declared.reply.Reply.TheVariants as reply
use Rattle.lot_machine.specs.declared.ticket.Target.TheVariants as target
use Rattle.lot_machine.specs.declared.ticket.Ticket.{Ticket}
use Rattle.lot_machine.specs.Commands.{Step, are_currencies_full, are_threads_full, are_tickets_full, command_effect, command_refusal, drop_currency, drop_thread, drop_ticket, kill, with_currency, with_thread, with_ticket}
use Rattle.lot_machine.specs.Funding.{backing_currency, issued_in, retargeted, target_of, ticket_in, with_amount, with_target}
use Rattle.lot_machine.specs.Numbered.{at_number}
use Rattle.lot_machine.specs.State.{State, funding_of, next_currency, next_thread, next_ticket}
use Rattle.lot_graph.specs.Graphs.{IsUserCurrency}
use Rattle.lot_value.specs.Changing.{CanTarget}
use Rattle.lot_kernel.specs.FreePlaces.{HasIdlePlace}
use Rattle.lot_kernel.specs.declared.tables.checks.Checked.{Checked}
use Rattle.lot_kernel.specs.declared.tables.checks.Checked.TheVariants.{NewTicket, DropTicket, NewCurrency, DropCurrency, PutTarget, SetAmount, NewThread, DropThread, EndThread, NewFunded, List as Listing}

-- the state after what passed its checks, and its reply
abbrev pub done_step : State → Checked → Step
done_step s (NewTicket ticket) = record { state = with_ticket s ticket; reply = reply.Ticket (next_ticket s) }
done_step s (DropTicket n) = record { state = drop_ticket s n; reply = reply.Done }
done_step s (NewCurrency name) = record { state = with_currency s name; reply = reply.Currency (next_currency s) }
done_step s (DropCurrency c) = record { state = drop_currency s c; reply = reply.Done }
done_step s (PutTarget n ticket to) =
    record { state = record s { tickets = with_target s.tickets n to }; reply = reply.Done }
done_step s (SetAmount n amount) =
    record { state = record s { tickets = with_amount s.tickets n amount }; reply = reply.Done }
done_step s (NewThread name script) = record { state = with_thread s name script; reply = reply.Thread (next_thread s) }
done_step s (DropThread t) = record { state = drop_thread s t; reply = reply.Done }
done_step s (EndThread t) = kill s t.number
done_step s (NewFunded ticket name script) = record {
  state = with_ticket (with_thread s name script) (retargeted (target.Thread (next_thread s)) ticket);
  reply = reply.Funded (next_ticket s) (next_thread s);
}
done_step s (Listing kind) = record { state = s; reply = reply.List kind }

-- there is room for the ticket, its issuer exists, its amount is positive, and it funds nothing
pub record CanIssue (s : State) (ticket : Ticket) : Type 0 where
  pub room : are_tickets_full s ≡ false
  pub issuer : slice_get (map is_some s.currencies) ticket.issuer ≡ Some true
  pub amount : 0 < ticket.amount
  pub unfunded : ticket.target ≡ target.Unfunded

-- the checks leave what the effect needs
abbrev pub CanBeDone : State → Checked → Type 0
CanBeDone s (NewTicket ticket) = CanIssue s ticket
CanBeDone s (DropTicket n) = target_of (funding_of s) n ≡ Some target.Unfunded
CanBeDone s (NewCurrency name) = are_currencies_full s ≡ false
CanBeDone s (DropCurrency c) =
    IsUserCurrency (funding_of s) c × (issued_in (funding_of s) c ≡ []) × (backing_currency (funding_of s) c ≡ [])
CanBeDone s (PutTarget n ticket to) =
    (ticket_in s.tickets n ≡ Some ticket) × CanTarget (funding_of s) n ticket.target to
CanBeDone s (SetAmount n amount) = (ticket : Ticket) × (ticket_in s.tickets n ≡ Some ticket) × (0 < amount)
CanBeDone s (NewThread name script) = (are_threads_full s ≡ false) × HasIdlePlace s
CanBeDone s (DropThread t) = (thread : Thread) × (at_number s.threads t ≡ Some (Some thread))
CanBeDone s (EndThread t) = (0 < t.number) × (t.number ≤ length s.threads)
CanBeDone s (NewFunded ticket name script) =
    CanIssue s ticket × (are_threads_full s ≡ false) × HasIdlePlace s × (length s.threads ≡ length s.records)
CanBeDone s (Listing kind) = ⊤

-- the first check that fails refuses the command; one that passes them all has the effect of what it is checked to be
abbrev pub IsChecked : State → Command → Result Checked Refusal → Type 0
IsChecked s command (Err refusal) = command_refusal s command ≡ Some refusal
IsChecked s command (Ok checked) =
    (command_refusal s command ≡ None) × (command_effect s command ≡ done_step s checked) × CanBeDone s checked
