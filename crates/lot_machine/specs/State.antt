-- The state of the kernel (4.3, 4.4, 4.6, 6.1).
use Rattle.std.specs.Prelude.{ℕ, ◌+◌, ◌-◌, ◌^◌, min, ◌==◌, nat_le, ◌&&◌, Bool, true, false, Option, Some, None, is_some, List, [], ◌∷◌, map, filter, find, replicate, codes, option_and_then, option_map, if◌then◌else◌}
use Rattle.std.specs.Bool.{then_some}
use Rattle.std.specs.Option.{option_flatten}
use Rattle.lot_machine.specs.declared.ticket.Ticket.{Ticket}
use Rattle.lot_machine.specs.declared.limits.Limits.{Limits}
use Rattle.lot_machine.specs.declared.record.Record.{Record}
use Rattle.lot_machine.specs.declared.record.Thread.{Thread}
use Rattle.lot_machine.specs.declared.record.Status.{Status}
use Rattle.lot_machine.specs.declared.record.Status.TheVariants.{Ready, Running, Queued, Served, Waiting, Asleep, Dead}
use Rattle.lot_machine.specs.declared.funding.Lend.{Lend}
use Rattle.lot_machine.specs.declared.funding.Lend.TheVariants.{Nobody, ToThread, ToMutex}
use Rattle.lot_machine.specs.declared.sizes.Sizes.{Sizes}
use Rattle.lot_machine.specs.Numbered.{at_number, set_number, numbers, option_any}
use Rattle.lot_machine.specs.Places.{next_place}
use Rattle.lot_machine.specs.Funding.{Funding}
use Rattle.lot_machine.specs.Value.{thread_value}
use Rattle.lot_machine.specs.Lottery.{weight}

-- a queued call: the caller, and the number that it sends
pub record QueuedCall : Type 0 where
  pub caller : ℕ
  pub number : ℕ

-- a port: the queued calls and the receivers, each list with the one that has waited longest first (4.6)
pub record Port : Type 0 where
  pub calls : List QueuedCall
  pub receivers : List ℕ

-- a mutex: its owner and its waiters, the one that has waited longest first (6.1)
pub record Mutex : Type 0 where
  pub owner : Option ℕ
  pub waiters : List ℕ

-- the free places of three tables, the one freed last first
pub record Freed : Type 0 where
  pub tickets : List ℕ
  pub currencies : List ℕ
  pub threads : List ℕ

-- Tickets, threads, ports and mutexes are numbered from 1; currencies are numbered from 0, which is base. A removal
-- leaves a gap, whose place is free with `reuse`; without it a list's length is the number ever made. With
-- `queued_lend` each port has a holder after the mutexes, whose owner is the port's server. Thread n is the nth of
-- `threads`, `records` and `clients`; a removed thread's record stays Dead.
pub record State : Type 0 where
  pub currencies : List (Option (List ℕ))  -- each currency's name
  pub tickets : List (Option Ticket)
  pub threads : List (Option Thread)  -- each thread's name and script
  pub records : List Record
  pub clients : List (List ℕ)  -- the clients of each thread, in the order in which they were taken
  pub ports : List Port
  pub mutexes : List Mutex
  pub limits : Sizes
  pub freed : Freed

-- the limits as plain numbers
abbrev pub sizes_of : Limits → Sizes
sizes_of l = record {
  tickets = l.tickets;
  currencies = l.currencies;
  threads = l.threads;
  ports = l.ports;
  mutexes = l.mutexes;
  processors = l.processors;
  scripts = l.scripts;
  quantum = l.quantum;
  unit = l.unit;
  reuse = l.reuse;
  plain_names = l.plain_names;
  without_compensation = l.without_compensation;
  without_lending = l.without_lending;
  queued_lend = l.queued_lend;
}

-- the holder of the port's server, by its number: the holders stand after the mutexes
abbrev pub holder_of : Sizes → ℕ → ℕ
holder_of limits port = limits.mutexes + port

-- as many holders as mutexes, and with `queued_lend` one for each port
abbrev pub holders : Sizes → ℕ
holders limits = limits.mutexes + (if limits.queued_lend then limits.ports else 0)

-- the opening state: base alone, empty ports and free mutexes
abbrev pub opening : Sizes → State
opening limits = record {
  currencies = Some (codes "base") ∷ [];
  tickets = [];
  threads = [];
  records = [];
  clients = [];
  ports = replicate limits.ports (record { calls = []; receivers = [] });
  mutexes = replicate (holders limits) (record { owner = None; waiters = [] });
  limits = limits;
  freed = record { tickets = []; currencies = []; threads = [] };
}

-- the name and script of the thread with this number, if it exists
abbrev pub thread_at : List (Option Thread) → ℕ → Option Thread
thread_at threads t = option_flatten (at_number threads t)

-- ---- places for `reuse`

-- these free places with `reuse`, otherwise none
abbrev pub given_again : State → List ℕ → List ℕ
given_again s free = if s.limits.reuse then free else []

-- the free places of tickets, of currencies and of threads, which the next ones get
abbrev pub free_tickets : State → List ℕ
free_tickets s = given_again s s.freed.tickets

abbrev pub free_currencies : State → List ℕ
free_currencies s = given_again s s.freed.currencies

abbrev pub free_threads : State → List ℕ
free_threads s = given_again s s.freed.threads

-- the number of the next ticket
abbrev pub next_ticket : State → ℕ
next_ticket s = next_place s.tickets (free_tickets s) + 1

-- the number of the next currency
abbrev pub next_currency : State → ℕ
next_currency s = next_place s.currencies (free_currencies s)

-- the number of the next thread
abbrev pub next_thread : State → ℕ
next_thread s = next_place s.threads (free_threads s) + 1

-- ---- the funding graph of a state

-- whether the callers of queued calls at the port lend
abbrev pub lends_at : Sizes → ℕ → Bool
lends_at limits port = limits.queued_lend && nat_le port limits.ports

-- The receiver of a thread's lend: a served thread's server, a waiting thread's mutex, with `queued_lend` the holder of
-- a queued thread's port, or nobody; in a kernel without lending always nobody (3.1, 4.6, 6.1).
abbrev pub lend_of : Sizes → Status → Lend
lend_of limits (Served server) = if limits.without_lending then Nobody else ToThread server
lend_of limits (Waiting mutex) = if limits.without_lending then Nobody else ToMutex mutex
lend_of limits (Queued port) = if limits.without_lending then Nobody else (if lends_at limits port then ToMutex (holder_of limits port) else Nobody)
lend_of limits other = Nobody

-- whether a thread with this status is live: Ready or Running
abbrev pub is_live_status : Status → Bool
is_live_status Ready = true
is_live_status (Running processor used) = true
is_live_status other = false

-- for each record, whether its thread is live
abbrev pub live_in : List Record → List Bool
live_in records = map (λ r. is_live_status r.status) records

-- for each thread of the state, whether it is live
abbrev pub live_of : State → List Bool
live_of s = live_in s.records

-- the state's funding: its currencies, tickets, lends and owners of mutexes
abbrev pub funding_of : State → Funding
funding_of s = record { currencies = map is_some s.currencies; tickets = s.tickets; lends = map (λ r. lend_of s.limits r.status) s.records; owners = map (λ m. m.owner) s.mutexes }

-- ---- threads

-- whether a thread with this status competes in draws
abbrev pub is_ready : Status → Bool
is_ready Ready = true
is_ready other = false

-- whether a thread with this status has ended
abbrev pub is_dead : Status → Bool
is_dead Dead = true
is_dead other = false

-- whether a thread with this status sleeps
abbrev pub is_asleep : Status → Bool
is_asleep Asleep = true
is_asleep other = false

-- the ticks used so far, if the thread runs on this processor
abbrev pub used_on : ℕ → Status → Option ℕ
used_on p (Running processor used) = then_some (processor == p) used
used_on p other = None

-- the thread's status
abbrev pub status_of : List Record → ℕ → Option Status
status_of records t = option_map (λ r. r.status) (at_number records t)

-- the ticks that the thread has used on this processor, if it runs there
abbrev pub used_by : List Record → ℕ → ℕ → Option ℕ
used_by records p t = option_and_then (used_on p) (status_of records t)

-- the Ready threads in ascending order
abbrev pub ready_threads : List Record → List ℕ
ready_threads records = filter (λ t. option_any is_ready (status_of records t)) (numbers records)

-- the thread that runs on the processor
abbrev pub thread_on : List Record → ℕ → Option ℕ
thread_on records p = find (λ t. is_some (used_by records p t)) (numbers records)

-- the records after this change to one thread's
abbrev pub change_record : (Record → Record) → List Record → ℕ → List Record
change_record change records t = changed (at_number records t)
  where
    changed : Option Record → List Record
    changed None = records
    changed (Some r) = set_number records t (change r)

-- the records after this change to each of these threads'
abbrev pub change_each : (Record → Record) → List Record → List ℕ → List Record
change_each change records [] = records
change_each change records (t ∷ ts) = change_each change (change_record change records t) ts

-- a thread's value, in base units (4.4)
abbrev pub value_of : State → ℕ → ℕ
value_of s t = thread_value s.limits.unit (funding_of s) (live_of s) t

-- a thread's weight in a draw (3.4, 4.5)
abbrev pub weight_of : State → ℕ → ℕ
weight_of s t = weight (value_of s t) (option_and_then (λ r. r.compensation) (at_number s.records t)) s.limits.quantum

-- the number, or the largest 64-bit number if it is greater: quanta and ticks stop there
abbrev pub saturated : ℕ → ℕ
saturated n = min n (2 ^ 64 - 1)
