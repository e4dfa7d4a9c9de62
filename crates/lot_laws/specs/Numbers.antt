-- Tickets, currencies and threads: how many count towards a limit, and the numbers that replies give (4.7).
use Rattle.std.specs.Prelude.{◌≡◌, ◌+◌, ℕ, true, false, Option, Some, None, is_some, is_none, List, length, count_by, filter_map, if◌then◌else◌}
use Rattle.lot_machine.specs.declared.event.Event.{Event}
use Rattle.lot_machine.specs.declared.reference.CurrencyRef.{CurrencyRef}
use Rattle.lot_machine.specs.declared.reply.Reply.{Reply}
use Rattle.lot_machine.specs.declared.reply.Reply.TheVariants as reply
use Rattle.lot_machine.specs.State.{State}
use Rattle.lot_machine.specs.Commands.{currency_meant, is_bad_amount, is_name, is_no_script, is_taken, is_thread_name}
use Rattle.lot_machine.specs.Step.{replies}

-- ---- limits

-- the elements of a table that count towards its limit: with `reuse` those that exist, without it all that were made
abbrev pub counted : {A : Type 0} → State → List (Option A) → ℕ
counted s table = if s.limits.reuse then count_by is_some table else length table

-- a new ticket may have the amount, and its currency exists
abbrev pub IsGoodTicket : State → ℕ → CurrencyRef → Type 0
IsGoodTicket s amount currency = (is_bad_amount amount ≡ false) × (is_none (currency_meant s currency) ≡ false)

-- a new currency may have the name
abbrev pub IsGoodCurrency : State → List ℕ → Type 0
IsGoodCurrency s name = (is_name s.limits name ≡ true) × (is_taken s name ≡ false)

-- a new thread may have the name, and its script exists
abbrev pub IsGoodThread : State → List ℕ → ℕ → Type 0
IsGoodThread s name script =
    (is_thread_name s.limits name ≡ true) × (is_taken s name ≡ false) × (is_no_script s script ≡ false)

-- as many tickets count as the limit allows
abbrev pub HasAllTickets : State → Type 0
HasAllTickets s = counted s s.tickets ≡ s.limits.tickets

-- the same for user currencies: base is one more
abbrev pub HasAllCurrencies : State → Type 0
HasAllCurrencies s = counted s s.currencies ≡ s.limits.currencies + 1

-- the same for threads
abbrev pub HasAllThreads : State → Type 0
HasAllThreads s = counted s s.threads ≡ s.limits.threads

-- ---- numbers

-- the number that the reply gives to a new ticket
abbrev pub ticket_given : Reply → Option ℕ
ticket_given (reply.Ticket n) = Some n
ticket_given (reply.Funded n t) = Some n
ticket_given other = None

-- the number that the reply gives to a new currency
abbrev pub currency_given : Reply → Option ℕ
currency_given (reply.Currency c) = Some c
currency_given other = None

-- the numbers of one kind that the replies to these events give, in order
abbrev pub numbers_given : (Reply → Option ℕ) → State → List Event → List ℕ
numbers_given given s events = filter_map given (replies s events)
