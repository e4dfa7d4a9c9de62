-- Notation for small runs: the commands of the console, and the values and listings after them.
use Rattle.std.specs.Prelude.{ℕ, Bool, true, false, List, [], ◌∷◌, map, codes, Option, Some}
use Rattle.lot_machine.specs.declared.command.Command.TheVariants.{MakeTicket, RemoveTicket, MakeCurrency, RemoveCurrency, Fund, Unfund, SetTicket, MakeThread, Kill, MakeFunded, RemoveThread}
use Rattle.lot_machine.specs.declared.event.Event.{Event}
use Rattle.lot_machine.specs.declared.reference.CurrencyRef.TheVariants as currency_ref
use Rattle.lot_machine.specs.declared.reference.ThreadRef.TheVariants as thread_ref
use Rattle.lot_machine.specs.declared.reference.TargetRef.TheVariants as target_ref
use Rattle.lot_machine.specs.declared.event.Event.TheVariants.{Command}
use Rattle.lot_machine.specs.declared.reply.Reply.{Reply}
use Rattle.lot_machine.specs.declared.record.Status.{Status}
use Rattle.lot_machine.specs.declared.row.CurrencyRow.{CurrencyRow}
use Rattle.lot_machine.specs.declared.row.TicketRow.{TicketRow}
use Rattle.lot_machine.specs.declared.row.ThreadRow.{ThreadRow}
use Rattle.lot_machine.specs.declared.sizes.Sizes.{Sizes}
use Rattle.lot_machine.specs.declared.ticket.Target.{Target}
use Rattle.lot_machine.specs.Numbered.{numbers}
use Rattle.lot_machine.specs.State.{State, opening, value_of, weight_of}
use Rattle.lot_machine.specs.Step.{replies, state_after}
use Rattle.lot_machine.specs.Rows.{currency_row}

-- the largest tables for tickets, currencies and threads; two ports, mutexes and processors, one script, quantum 100
abbrev pub largest : Sizes
largest = record { tickets = 65535; currencies = 4096; threads = 4096; ports = 2; mutexes = 2; processors = 2; scripts = 1; quantum = 100; unit = 1; reuse = false; plain_names = false; without_compensation = false; without_lending = false; queued_lend = false }

-- the sizes `largest` with unit 256
abbrev pub finer : Sizes
finer = record largest { unit = 256 }

-- at most two tickets, two user currencies and two threads at once, with `reuse`
abbrev pub two_of_each : Sizes
two_of_each = record { tickets = 2; currencies = 2; threads = 2; ports = 0; mutexes = 0; processors = 1; scripts = 1; quantum = 100; unit = 1; reuse = true; plain_names = false; without_compensation = false; without_lending = false; queued_lend = false }

-- the same limits on all that are ever made, without `reuse`
abbrev pub two_in_all : Sizes
two_in_all = record two_of_each { reuse = false }

-- the sizes `largest` with plain names
abbrev pub any_printable : Sizes
any_printable = record largest { plain_names = true }

-- the sizes `largest` without compensation
abbrev pub uncompensated : Sizes
uncompensated = record largest { without_compensation = true }

-- the sizes `largest` without lending
abbrev pub without_lends : Sizes
without_lends = record largest { without_lending = true }

-- the sizes `largest` in which queued calls lend
abbrev pub queues_lend : Sizes
queues_lend = record largest { queued_lend = true }

-- ---- commands

-- the name of base
abbrev pub base : List ℕ
base = codes "base"

-- make a ticket of this amount in the currency with this name
abbrev pub mktkt : ℕ → List ℕ → Event
mktkt amount currency = Command (MakeTicket amount (currency_ref.Named currency))

-- remove the ticket
abbrev pub rmtkt : ℕ → Event
rmtkt n = Command (RemoveTicket n)

-- make a currency with this name
abbrev pub mkcur : List ℕ → Event
mkcur name = Command (MakeCurrency name)

-- remove the currency with this name
abbrev pub rmcur : List ℕ → Event
rmcur name = Command (RemoveCurrency (currency_ref.Named name))

-- make the ticket fund the currency or thread with this name
abbrev pub fund : ℕ → List ℕ → Event
fund n name = Command (Fund n (target_ref.Named name))

-- take away the ticket's target
abbrev pub unfund : ℕ → Event
unfund n = Command (Unfund n)

-- set the ticket's amount
abbrev pub settkt : ℕ → ℕ → Event
settkt n amount = Command (SetTicket n amount)

-- make a thread with this name and script 1
abbrev pub mkthr : List ℕ → Event
mkthr name = Command (MakeThread name 1)

-- kill the thread with this name
abbrev pub kill : List ℕ → Event
kill name = Command (Kill (thread_ref.Named name))

-- remove the thread with this name
abbrev pub rmthr : List ℕ → Event
rmthr name = Command (RemoveThread (thread_ref.Named name))

-- make a thread with this name and script 1, and a ticket of this amount in the currency that funds it
abbrev pub fundx : ℕ → List ℕ → List ℕ → Event
fundx amount currency name = Command (MakeFunded amount (currency_ref.Named currency) name 1)

-- ---- results

-- the state after these events, from the start with these limits
abbrev pub after_in : Sizes → List Event → State
after_in limits events = state_after (opening limits) events

-- the replies to the later events, after the earlier ones
abbrev pub answers_in : Sizes → List Event → List Event → List Reply
answers_in limits earlier events = replies (after_in limits earlier) events

-- the state after these events, from the start with sizes `largest`
abbrev pub after : List Event → State
after events = after_in largest events

-- the replies to the later events, after the earlier ones, with sizes `largest`
abbrev pub answers : List Event → List Event → List Reply
answers earlier events = answers_in largest earlier events

-- the values of the threads, in order
abbrev pub values : State → List ℕ
values s = map (value_of s) (numbers s.records)

-- the weights of the threads, in order
abbrev pub weights : State → List ℕ
weights s = map (weight_of s) (numbers s.records)

-- the statuses of the threads, in order
abbrev pub statuses : State → List Status
statuses s = map (λ r. r.status) s.records

-- ---- rows of listings

-- the rows of currencies 0 to 6
abbrev pub shown_currencies : State → List (Option CurrencyRow)
shown_currencies s = map (currency_row s) (0 ∷ 1 ∷ 2 ∷ 3 ∷ 4 ∷ 5 ∷ 6 ∷ [])

-- a currency's row with these fields
abbrev pub currency_shown : List ℕ → ℕ → ℕ → ℕ → ℕ → Option CurrencyRow
currency_shown name backing issued active value = Some (record { name = name; backing = backing; issued = issued; active_amount = active; value = value })

-- the row of a ticket that has a target, with these fields
abbrev pub ticket_shown : ℕ → List ℕ → List ℕ → Target → Bool → ℕ → Option TicketRow
ticket_shown amount issuer to funds active value =
    Some (record { amount = amount; issuer = issuer; target = Some to; funds = funds; is_active = active; value = value })

-- a thread's row with these fields
abbrev pub thread_shown : List ℕ → Status → ℕ → ℕ → ℕ → ℕ → Option ThreadRow
thread_shown name status value weight quanta ticks = Some (record { name = name; status = status; value = value; weight = weight; quanta = quanta; ticks = ticks })
