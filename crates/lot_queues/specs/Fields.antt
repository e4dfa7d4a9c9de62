-- The representation of the queues in the fields of `Queues`; no public clause cites this file. The node of thread t
-- is t - 1. The lists are, in order: the clients of each possible thread, the calls of each port, the receivers of
-- each port, and the waiters of each mutex.
use Rattle.std.specs.Prelude.{◌≡◌, ℕ, ◌+◌, ◌-◌, ◌<◌, ◌≤◌, List, Option, None, Contains, length, map, slice_index, slice_index_or, slice_set}
use Rattle.std.specs.List.{range_with_len}
use Rattle.lot_machine.specs.State.{Port, Mutex, QueuedCall}
use Rattle.lot_lists.specs.NodeLists.{NodeLists, nodes_of, IsConsistent}
use Rattle.lot_queues.specs.declared.layout.Layout.{Layout}
use Rattle.lot_queues.specs.QueueLists.{QueueLists}

-- the list of a port's calls
abbrev pub calls_list : Layout → ℕ → ℕ
calls_list layout p = layout.room + (p - 1)

-- the list of a port's receivers
abbrev pub receivers_list : Layout → ℕ → ℕ
receivers_list layout p = layout.room + layout.ports + (p - 1)

-- the list of a mutex's waiters
abbrev pub waiters_list : Layout → ℕ → ℕ
waiters_list layout m = layout.room + layout.ports + layout.ports + (m - 1)

-- the number of lists
abbrev pub list_count : Layout → ℕ
list_count layout = layout.room + layout.ports + layout.ports + layout.mutexes

-- the fields: the lists, the number that each thread sent last, the owner of each mutex, and the number of threads
pub record Fields : Type 0 where
  pub lists : NodeLists
  pub sent : List ℕ
  pub owners : List (Option ℕ)
  pub threads : ℕ
  pub layout : Layout

-- the lists with these nodes in one of them, and the others unchanged
abbrev pub relisted : NodeLists → ℕ → List ℕ → NodeLists
relisted lists list nodes = record lists { lists = slice_set lists.lists list nodes }

-- the threads of a list
abbrev pub threads_in : NodeLists → ℕ → List ℕ
threads_in lists list = map (λ node. node + 1) (nodes_of lists list)

-- the call of a node's thread
abbrev pub call_of : List ℕ → ℕ → QueuedCall
call_of sent node = record { caller = node + 1; number = slice_index sent node }

-- a thread's clients
abbrev pub clients_in : Fields → ℕ → List ℕ
clients_in f t = threads_in f.lists (t - 1)

-- a port's calls and receivers
abbrev pub port_in : Fields → ℕ → Port
port_in f p = record {
  calls = map (call_of f.sent) (nodes_of f.lists (calls_list f.layout p));
  receivers = threads_in f.lists (receivers_list f.layout p);
}

-- a mutex's owner and waiters
abbrev pub mutex_in : Fields → ℕ → Mutex
mutex_in f m = record {
  owner = slice_index_or f.owners (m - 1) None;
  waiters = threads_in f.lists (waiters_list f.layout m);
}

-- the queues in the fields
unfoldable pub seen : Fields → QueueLists
seen f = record {
  clients = map (clients_in f) (range_with_len 1 f.threads);
  ports = map (port_in f) (range_with_len 1 f.layout.ports);
  mutexes = map (mutex_in f) (range_with_len 1 f.layout.mutexes);
  room = f.layout.room;
}

-- the invariant of the fields
pub record IsLaidOut (f : Fields) : Type 0 where
  pub consistent : IsConsistent f.lists
  pub nodes : f.lists.nodes ≡ f.layout.room
  pub lists : length f.lists.lists ≡ list_count f.layout
  pub sent : length f.sent ≡ f.layout.room
  pub owners : length f.owners ≡ f.layout.mutexes
  pub threads : f.threads ≤ f.layout.room
  -- the nodes in a list are those of existing threads
  pub made : (list node : ℕ) → Contains (nodes_of f.lists list) node → node < f.threads
  -- a thread that doesn't exist serves nobody
  pub unused : (list node : ℕ) → list < f.layout.room → Contains (nodes_of f.lists list) node → list < f.threads
