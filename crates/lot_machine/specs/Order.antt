-- An invariant: true at the start and preserved by each event. It implies that each reachable state is sound.
use Rattle.std.specs.Prelude.{◌≡◌, ◌≢◌, ℕ, ◌^◌, ◌<◌, ◌≤◌, ◌⊎◌, true, Option, None, Some, List, [], All, IfSome, length, map, slice_get}
use Rattle.lot_machine.specs.declared.record.Record.{Record}
use Rattle.lot_machine.specs.declared.record.Status.{Status}
use Rattle.lot_machine.specs.declared.record.Status.TheVariants.{Receiving, Queued, Served, Waiting, Dead}
use Rattle.lot_machine.specs.Bounds.{IsWithinBounds}
use Rattle.lot_machine.specs.Numbered.{at_number}
use Rattle.lot_machine.specs.State.{State, Port, Mutex, funding_of, status_of}
use Rattle.lot_machine.specs.Ports.{clients_of}
use Rattle.lot_machine.specs.Equations.{HasEachOnce}
use Rattle.lot_machine.specs.Facts.{HasNoCycle, FundsThere, RunsApart}

-- each of these threads has this status, and none is listed twice
pub record IsQueue (records : List Record) (status : Status) (threads : List ℕ) : Type 0 where
  pub each : (place t : ℕ) → slice_get threads place ≡ Some t → status_of records t ≡ Some status
  pub once : (place other t : ℕ) → slice_get threads place ≡ Some t → slice_get threads other ≡ Some t → place ≡ other

-- Each thread in a queue has the queue's status: Receiving or Queued at that port, Waiting for that mutex, or Served
-- by that server. No thread is its own client, or waits for a mutex that it owns (4.6, 6.1).
pub record HasQueues (records : List Record) (clients : List (List ℕ)) (ports : List Port) (mutexes : List Mutex) : Type 0 where
  pub receivers : (p : ℕ) (port : Port) → at_number ports p ≡ Some port → IsQueue records (Receiving p) port.receivers
  pub callers : (p : ℕ) (port : Port) → at_number ports p ≡ Some port → IsQueue records (Queued p) (map (λ call. call.caller) port.calls)
  pub waiters : (m : ℕ) (mutex : Mutex) → at_number mutexes m ≡ Some mutex → IsQueue records (Waiting m) mutex.waiters
  pub served : (server : ℕ) (threads : List ℕ) → at_number clients server ≡ Some threads → IsQueue records (Served server) threads
  pub own_clients : (server : ℕ) (threads : List ℕ) → at_number clients server ≡ Some threads → (place : ℕ) → slice_get threads place ≢ Some server
  pub own_waiters : (m owner : ℕ) (mutex : Mutex) → at_number mutexes m ≡ Some mutex → mutex.owner ≡ Some owner → (place : ℕ) → slice_get mutex.waiters place ≢ Some owner

-- no call is queued at the port while a thread waits to receive there (4.6)
abbrev pub IsOneSided : Port → Type 0
IsOneSided port = (port.calls ≡ []) ⊎ (port.receivers ≡ [])

-- each port is one-sided
abbrev pub HasOneSidedPorts : State → Type 0
HasOneSidedPorts s = (p : ℕ) (port : Port) → at_number s.ports p ≡ Some port → IsOneSided port

-- the place is a gap: its element was removed
abbrev pub IsGap : {A : Type 0} → List (Option A) → ℕ → Type 0
IsGap xs place = slice_get xs place ≡ Some None

-- the free places of each table are exactly its gaps, each once
pub record HasFreeGaps (s : State) : Type 0 where
  pub tickets : HasEachOnce s.freed.tickets (IsGap s.tickets)
  pub currencies : HasEachOnce s.freed.currencies (IsGap s.currencies)
  pub threads : HasEachOnce s.freed.threads (IsGap s.threads)

-- In order: no cycle, tickets fund existing currencies, threads run apart, queues match statuses, removed threads are
-- dead and serve nobody, with `reuse` the free places are the gaps, tickets and sizes are in bounds.
pub record IsInOrder (s : State) : Type 0 where
  pub no_cycle : HasNoCycle (funding_of s)
  pub funds_there : FundsThere (funding_of s)
  pub runs_apart : RunsApart s.records
  pub queues : HasQueues s.records s.clients s.ports s.mutexes
  pub removed : (t : ℕ) → at_number s.threads t ≡ Some None → status_of s.records t ≡ Some Dead
  pub idle : (t : ℕ) → at_number s.threads t ≡ Some None → clients_of s.clients t ≡ []
  pub gaps : s.limits.reuse ≡ true → HasFreeGaps s
  pub amounts : All (λ place. IfSome place (λ t. t.amount < 2 ^ 32)) s.tickets
  pub ticket_count : length s.tickets ≤ s.limits.tickets
  pub bounds : IsWithinBounds s.limits
