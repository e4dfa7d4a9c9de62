-- Rows of listings in plain fields.
use Rattle.std.specs.Prelude.{ℕ, List, [], Option, is_some, unwrap_or}
use Rattle.lot_machine.specs.declared.record.Status.{Status}
use Rattle.lot_machine.specs.declared.record.Status.TheVariants.{Ready, Running, Receiving, Queued, Served, Waiting, Asleep, Dead}
use Rattle.lot_machine.specs.declared.row.TicketRow.{TicketRow}
use Rattle.lot_machine.specs.declared.ticket.Target.{Target}
use Rattle.lot_machine.specs.declared.ticket.Target.TheVariants.{Unfunded, Currency, Thread}
use Rattle.lot_machine.specs.declared.row.CurrencyRow.{CurrencyRow}
use Rattle.lot_machine.specs.declared.row.ThreadRow.{ThreadRow}
use Rattle.lot_c.specs.declared.name.PlainName.{PlainName}
use Rattle.lot_c.specs.declared.rows.PlainTicketRow.{PlainTicketRow}
use Rattle.lot_c.specs.declared.rows.PlainCurrencyRow.{PlainCurrencyRow}
use Rattle.lot_c.specs.declared.rows.PlainStatus.{PlainStatus}
use Rattle.lot_c.specs.declared.rows.PlainThreadRow.{PlainThreadRow}
use Rattle.lot_c.specs.Names.{plain_name}
use Rattle.lot_c.specs.Numbers.{status_number, target_kind}
use Rattle.lot_c.specs.Wides.{plain_wide}

-- the name of a target, or no bytes without one
abbrev pub plain_target : Option (List ℕ) → PlainName
plain_target target = plain_name (unwrap_or target [])

-- the number of a target, 0 for none
abbrev pub target_number : Target → ℕ
target_number Unfunded = 0
target_number (Currency c) = c
target_number (Thread t) = t

-- a ticket's row in plain fields
abbrev pub plain_ticket_row : TicketRow → PlainTicketRow
plain_ticket_row row = record {
  value = row.value;
  amount = row.amount;
  issuer = plain_name row.issuer;
  target = plain_target row.target;
  target_kind = target_kind row.funds;
  target_number = target_number row.funds;
  has_target = is_some row.target;
  is_active = row.is_active;
}

-- a currency's row in plain fields
abbrev pub plain_currency_row : CurrencyRow → PlainCurrencyRow
plain_currency_row row = record {
  active_amount = row.active_amount;
  value = row.value;
  backing = row.backing;
  issued = row.issued;
  name = plain_name row.name;
}

-- the status of a thread that doesn't run, with the number of its port, server or mutex
abbrev waits : Status → ℕ → PlainStatus
waits status other = record { kind = status_number status; processor = 0; used = 0; other = other }

-- a thread's status in plain fields
abbrev pub plain_status : Status → PlainStatus
plain_status Ready = waits Ready 0
plain_status (Running processor used) = record { kind = status_number (Running processor used); processor = processor; used = used; other = 0 }
plain_status (Receiving port) = waits (Receiving port) port
plain_status (Queued port) = waits (Queued port) port
plain_status (Served server) = waits (Served server) server
plain_status (Waiting mutex) = waits (Waiting mutex) mutex
plain_status Asleep = waits Asleep 0
plain_status Dead = waits Dead 0

-- a thread's row in plain fields
abbrev pub plain_thread_row : ThreadRow → PlainThreadRow
plain_thread_row row = record {
  weight = plain_wide row.weight;
  value = row.value;
  quanta = row.quanta;
  ticks = row.ticks;
  status = plain_status row.status;
  name = plain_name row.name;
}
