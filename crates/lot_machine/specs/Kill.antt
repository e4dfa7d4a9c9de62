-- A killed thread's exit from its port, mutex or server, from its clients, and from its mutexes (4.6, 6.1).
use Rattle.std.specs.Prelude.{ℕ, ◌==◌, Bool, not, Option, Some, None, List, [], ◌∷◌, ◌++◌, map, filter, filter_map, if◌then◌else◌}
use Rattle.lot_machine.specs.declared.record.Record.{Record}
use Rattle.lot_machine.specs.declared.record.Status.TheVariants.{Ready, Dead}
use Rattle.lot_machine.specs.Numbered.{set_number, option_any}
use Rattle.lot_machine.specs.State.{State, Port, Mutex, change_record, change_each}
use Rattle.lot_machine.specs.Ports.{clients_of}

-- the threads without this one
abbrev pub without : ℕ → List ℕ → List ℕ
without t threads = filter (λ u. not (u == t)) threads

-- the port without the thread's call, and without the thread among its receivers
abbrev pub port_without : ℕ → Port → Port
port_without t port = record { calls = filter (λ call. not (call.caller == t)) port.calls; receivers = without t port.receivers }

-- whether the thread owns the mutex
abbrev pub is_owned_by : ℕ → Mutex → Bool
is_owned_by t mutex = option_any (λ owner. owner == t) mutex.owner

-- a mutex that passes to the first of these waiters, or is free without one
abbrev pub passed_on : List ℕ → Mutex
passed_on [] = record { owner = None; waiters = [] }
passed_on (first ∷ others) = record { owner = Some first; waiters = others }

-- the mutex without the thread among its waiters; if the thread owned it, it passes to the one that has waited longest
abbrev pub mutex_without : ℕ → Mutex → Mutex
mutex_without t mutex =
    if is_owned_by t mutex then passed_on (without t mutex.waiters) else record { owner = mutex.owner; waiters = without t mutex.waiters }

-- the next owner of the mutex, if this thread owns it and another waits
abbrev pub heir : ℕ → Mutex → Option ℕ
heir t mutex = if is_owned_by t mutex then (mutex_without t mutex).owner else None

-- the threads whose wait the kill ends: the clients of the killed thread, and the next owners of its mutexes
abbrev pub released_by : State → ℕ → List ℕ
released_by s t = clients_of s.clients t ++ filter_map (heir t) s.mutexes

-- a thread whose wait ends is Ready; nothing is delivered to it, and its compensation stays
abbrev pub released : Record → Record
released r = record r { status = Ready }

-- a thread that ends is Dead, without compensation
abbrev pub ended : Record → Record
ended r = record r { status = Dead; compensation = None }

-- The state after the thread is killed. A running thread leaves its processor idle, and is charged no tick since its
-- last trap.
abbrev pub killed : State → ℕ → State
killed s t = record s {
  records = change_record ended (change_each released s.records (released_by s t)) t;
  clients = set_number (map (without t) s.clients) t [];
  ports = map (port_without t) s.ports;
  mutexes = map (mutex_without t) s.mutexes;
}
