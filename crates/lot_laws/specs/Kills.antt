-- The kill of a thread, and the threads that it releases.
use Rattle.std.specs.Prelude.{◌≡◌, ◌≢◌, ◌⊎◌, ℕ, Some, Contains, [], slice_get}
use Rattle.lot_machine.specs.declared.command.Command.TheVariants.{Kill}
use Rattle.lot_machine.specs.declared.event.Event.TheVariants.{Command}
use Rattle.lot_machine.specs.declared.reference.ThreadRef.{ThreadRef}
use Rattle.lot_machine.specs.declared.reply.Reply.TheVariants.{Killed}
use Rattle.lot_machine.specs.Numbered.{at_number}
use Rattle.lot_machine.specs.Funding.{backing_thread, owner_of}
use Rattle.lot_machine.specs.State.{State, Mutex, funding_of}
use Rattle.lot_machine.specs.Ports.{clients_of}
use Rattle.lot_machine.specs.Step.{step}

-- the state after the command `kill`
abbrev pub after_kill : State → ThreadRef → State
after_kill s thread = (step s (Command (Kill thread))).state

-- the command kills thread t
abbrev pub Kills : State → ThreadRef → ℕ → Type 0
Kills s thread t = (step s (Command (Kill thread))).reply ≡ Killed t

-- thread t owns the mutex
abbrev pub Owns : State → ℕ → ℕ → Mutex → Type 0
Owns s t m mutex = (at_number s.mutexes m ≡ Some mutex) × (mutex.owner ≡ Some t)

-- the thread has waited longest for a mutex that thread t owns
abbrev pub IsNextOwner : State → ℕ → ℕ → Type 0
IsNextOwner s t u = (m : ℕ) × ((mutex : Mutex) × Owns s t m mutex × (slice_get mutex.waiters 0 ≡ Some u))

-- thread u waits for thread t: it is a client, or has waited longest for a mutex that t owns
abbrev pub WaitsForThread : State → ℕ → ℕ → Type 0
WaitsForThread s t u = Contains (clients_of s.clients t) u ⊎ IsNextOwner s t u

-- the thread has nothing but its clients: no ticket funds it, it owns no mutex, and with `queued_lend` no port is its
pub record HasOnlyClients (s : State) (t : ℕ) : Type 0 where
  pub tickets : backing_thread (funding_of s) t ≡ []
  pub mutexes : (m : ℕ) → owner_of (funding_of s) m ≢ Some t
