-- The primitive changes that make up each event.
use Rattle.std.specs.Prelude.{ℕ, Option, List, [], ◌∷◌}
use Rattle.lot_machine.specs.declared.ticket.Ticket.{Ticket}
use Rattle.lot_machine.specs.declared.record.Record.{Record}
use Rattle.lot_machine.specs.declared.record.Thread.{Thread}
use Rattle.lot_machine.specs.Numbered.{set_number}
use Rattle.lot_machine.specs.State.{State, Port, Mutex}
use Rattle.lot_machine.specs.Commands.{with_ticket, with_currency, with_thread, drop_ticket, drop_currency, drop_thread}

-- Adds a row to a table, replaces one, or leaves a gap in place of one. A new thread adds a row to each of three
-- tables.
pub data Change : Type 0 where
  NewTicket : Ticket → Change
  DropTicket : ℕ → Change
  PutTicket : ℕ → Option Ticket → Change
  NewCurrency : List ℕ → Change
  DropCurrency : ℕ → Change
  NewThread : Thread → Change
  DropThread : ℕ → Change
  PutRecord : ℕ → Record → Change
  PutClients : ℕ → List ℕ → Change
  PutPort : ℕ → Port → Change
  PutMutex : ℕ → Mutex → Change

-- the state after one change
abbrev pub applied : State → Change → State
applied s (NewTicket ticket) = with_ticket s ticket
applied s (DropTicket n) = drop_ticket s n
applied s (PutTicket n place) = record s { tickets = set_number s.tickets n place }
applied s (NewCurrency name) = with_currency s name
applied s (DropCurrency c) = drop_currency s c
applied s (NewThread thread) = with_thread s thread.name thread.script
applied s (DropThread t) = drop_thread s t
applied s (PutRecord t r) = record s { records = set_number s.records t r }
applied s (PutClients t clients) = record s { clients = set_number s.clients t clients }
applied s (PutPort p port) = record s { ports = set_number s.ports p port }
applied s (PutMutex m mutex) = record s { mutexes = set_number s.mutexes m mutex }

-- the state after these changes, in order
abbrev pub applied_all : State → List Change → State
applied_all s [] = s
applied_all s (c ∷ cs) = applied_all (applied s c) cs
