-- The queues in the contracts of `Queues`, in terms of the machine's definitions.
use Rattle.std.specs.Prelude.{ℕ, ◌<◌, ◌≤◌, List, [], Option, None, Contains, length, map, replicate}
use Rattle.lot_machine.specs.Numbered.{set_number}
use Rattle.lot_machine.specs.State.{Port, Mutex, QueuedCall}
use Rattle.lot_machine.specs.Ports.{port_at, clients_of}
use Rattle.lot_machine.specs.Mutexes.{mutex_at}
use Rattle.lot_machine.specs.Kill.{without, port_without}

-- The clients of each thread, and each port and mutex with its queues: the machine's fields of these names (4.6,
-- 6.1).
pub record QueueLists : Type 0 where
  pub clients : List (List ℕ)
  pub ports : List Port
  pub mutexes : List Mutex
  pub room : ℕ  -- the capacity, in threads

-- the queues at the start: no threads, empty ports, free mutexes
abbrev pub empty_queues : ℕ → ℕ → ℕ → QueueLists
empty_queues ports mutexes threads = record {
  clients = [];
  ports = replicate ports (record { calls = []; receivers = [] });
  mutexes = replicate mutexes (record { owner = None; waiters = [] });
  room = threads;
}

-- n is the number of an element of the list
abbrev pub IsThere : {A : Type 0} → List A → ℕ → Type 0
IsThere xs n = (0 < n) × (n ≤ length xs)

-- the callers whose calls are queued at the port
abbrev pub callers_at : List Port → ℕ → List ℕ
callers_at ports p = map (λ call. call.caller) (port_at ports p).calls

-- the thread waits at no port and for no mutex, and no thread serves it
pub record IsNowhere (q : QueueLists) (t : ℕ) : Type 0 where
  pub calls : (p : ℕ) → ¬ Contains (callers_at q.ports p) t
  pub receivers : (p : ℕ) → ¬ Contains (port_at q.ports p).receivers t
  pub waiters : (m : ℕ) → ¬ Contains (mutex_at q.mutexes m).waiters t
  pub clients : (server : ℕ) → ¬ Contains (clients_of q.clients server) t

-- the thread waits for some mutex
pub record IsWaiter (mutexes : List Mutex) (t : ℕ) : Type 0 where
  pub mutex : ℕ
  pub waits : Contains (mutex_at mutexes mutex).waiters t

-- the ports with these calls at one of them
abbrev pub with_calls : List Port → ℕ → List QueuedCall → List Port
with_calls ports p calls = set_number ports p (record { calls = calls; receivers = (port_at ports p).receivers })

-- the ports with these receivers at one of them
abbrev pub with_receivers : List Port → ℕ → List ℕ → List Port
with_receivers ports p receivers = set_number ports p (record { calls = (port_at ports p).calls; receivers = receivers })

-- the mutexes with these waiters for one of them
abbrev pub with_waiters : List Mutex → ℕ → List ℕ → List Mutex
with_waiters mutexes m waiters = set_number mutexes m (record { owner = (mutex_at mutexes m).owner; waiters = waiters })

-- the mutexes with this owner of one of them, or with one of them free
abbrev pub with_owner : List Mutex → ℕ → Option ℕ → List Mutex
with_owner mutexes m owner = set_number mutexes m (record { owner = owner; waiters = (mutex_at mutexes m).waiters })

-- the mutexes without the thread among their waiters
abbrev pub waiters_without : List Mutex → ℕ → List Mutex
waiters_without mutexes t = map (λ m. record { owner = m.owner; waiters = without t m.waiters }) mutexes

-- the queues without the thread
abbrev pub queues_without : QueueLists → ℕ → QueueLists
queues_without q t = record q {
  clients = map (without t) q.clients;
  ports = map (port_without t) q.ports;
  mutexes = waiters_without q.mutexes t;
}
