-- Removed threads, and the places that could refer to them.
use Rattle.std.specs.Prelude.{◌≡◌, ◌≢◌, ℕ, Some, None, List, All, Contains, map}
use Rattle.lot_machine.specs.declared.record.Status.TheVariants.{Dead}
use Rattle.lot_machine.specs.declared.funding.Node.{Node}
use Rattle.lot_machine.specs.declared.funding.Node.TheVariants.{Thread}
use Rattle.lot_machine.specs.declared.event.Event.{Event}
use Rattle.lot_machine.specs.Named.{thread_given}
use Rattle.lot_machine.specs.Numbered.{at_number}
use Rattle.lot_machine.specs.Funding.{Funding, IsEdge}
use Rattle.lot_machine.specs.State.{State, Port, Mutex, funding_of, status_of}
use Rattle.lot_machine.specs.Step.{replies}

-- the thread was removed: its number was used, and its slot is a gap
abbrev pub IsRemoved : State → ℕ → Type 0
IsRemoved s t = at_number s.threads t ≡ Some None

-- no event of the run gives this number to a new thread
abbrev pub IsNotGiven : State → List Event → ℕ → Type 0
IsNotGiven s events t = All (λ r. thread_given r ≢ Some t) (replies s events)

-- no edge leads to the thread: no ticket funds it, no thread lends to it, and it owns no mutex
abbrev pub NothingLeadsTo : Funding → ℕ → Type 0
NothingLeadsTo f t = (from : Node) → ¬ IsEdge f from (Thread t)

-- no edge leads to a removed thread
abbrev pub NothingLeadsToRemoved : State → Type 0
NothingLeadsToRemoved s = (t : ℕ) → IsRemoved s t → NothingLeadsTo (funding_of s) t

-- The thread is dead, and waits nowhere: neither the receivers or queued calls of a port hold it, nor the waiters of a
-- mutex, nor the clients of a thread.
pub record StandsNowhere (s : State) (t : ℕ) : Type 0 where
  pub dead : status_of s.records t ≡ Some Dead
  pub receivers : (p : ℕ) (port : Port) → at_number s.ports p ≡ Some port → ¬ Contains port.receivers t
  pub callers : (p : ℕ) (port : Port) → at_number s.ports p ≡ Some port → ¬ Contains (map (λ call. call.caller) port.calls) t
  pub waiters : (m : ℕ) (mutex : Mutex) → at_number s.mutexes m ≡ Some mutex → ¬ Contains mutex.waiters t
  pub served : (server : ℕ) (clients : List ℕ) → at_number s.clients server ≡ Some clients → ¬ Contains clients t
