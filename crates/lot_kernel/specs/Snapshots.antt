-- The kernel as its contracts see it.
use Rattle.std.specs.Prelude.{◌≡◌, ◌⊎◌, ℕ, ◌<◌, true, Option, Some, List, [], Contains, is_some, length, map, slice_get}
use Rattle.lot_machine.specs.declared.funding.Node.{Node}
use Rattle.lot_machine.specs.declared.sizes.Sizes.{Sizes}
use Rattle.lot_machine.specs.declared.ticket.Target.{Target}
use Rattle.lot_machine.specs.declared.ticket.Target.TheVariants.{Unfunded, Currency, Thread}
use Rattle.lot_machine.specs.Mutexes.{mutex_at}
use Rattle.lot_machine.specs.State.{State, Freed, Mutex, funding_of, holders, opening}
use Rattle.lot_machine.specs.Touched.{PathLeads, Touches}
use Rattle.lot_queues.specs.QueueLists.{QueueLists, IsThere}
use Rattle.lot_value.specs.declared.meter.Meter.{Meter}
use Rattle.lot_threads.specs.Threaded.{Threaded}

-- the machine's state, the stale nodes, whose values a reader recomputes first, and the counts
pub record Snapshot : Type 0 where
  pub state : State
  pub stale : List Node
  pub meter : Meter

-- the snapshot at the start: the opening state, no stale node, and counts of 0
abbrev pub starting : Sizes → Snapshot
starting sizes = record { state = opening sizes; stale = []; meter = record { ticket_reads = 0; tree_visits = 0 } }

-- Each node that is stale afterwards was stale before, or a path of edges that exist before or after leads to it from
-- a node that the step touches (4.4).
abbrev pub MakesStale : Snapshot → Snapshot → Type 0
MakesStale old new =
    (x : Node) → Contains new.stale x → Contains old.stale x ⊎ ((node : Node) × Touches old.state new.state node × PathLeads (funding_of old.state) (funding_of new.state) node x)

-- the threads of a state, with these stale nodes and these counts
abbrev pub threads_of : State → List Node → Meter → Threaded
threads_of s stale meter = record {
  currencies = map is_some s.currencies;
  tickets = s.tickets;
  owners = map (λ (m : Mutex). m.owner) s.mutexes;
  ticket_limit = s.limits.tickets;
  currency_limit = s.limits.currencies;
  thread_limit = s.limits.threads;
  unit = s.limits.unit;
  quantum = s.limits.quantum;
  processors = s.limits.processors;
  lending = s.limits;
  threads = s.threads;
  records = s.records;
  stale = stale;
  meter = meter;
}

-- the state made up of these free places, names of currencies, threads and queues
abbrev pub held : Sizes → Freed → List (Option (List ℕ)) → Threaded → QueueLists → State
held sizes freed currencies threads queues = record {
  currencies = currencies;
  tickets = threads.tickets;
  threads = threads.threads;
  records = threads.records;
  clients = queues.clients;
  ports = queues.ports;
  mutexes = queues.mutexes;
  limits = sizes;
  freed = freed;
}

-- the ports and the mutexes of a kernel with these sizes; nobody waits for the holder of a port's server
pub record HasHolders (sizes : Sizes) (q : QueueLists) : Type 0 where
  pub ports : length q.ports ≡ sizes.ports
  pub mutexes : length q.mutexes ≡ holders sizes
  pub unwaited : (m : ℕ) → sizes.mutexes < m → (mutex_at q.mutexes m).waiters ≡ []

-- the target exists: it is a currency, base included, or a thread
abbrev pub IsTargetThere : State → Target → Type 0
IsTargetThere s Unfunded = ⊥
IsTargetThere s (Currency c) = slice_get (map is_some s.currencies) c ≡ Some true
IsTargetThere s (Thread t) = IsThere s.records t
