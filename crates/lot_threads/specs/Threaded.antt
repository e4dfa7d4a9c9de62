-- The threads in the contracts of `Threads`.
use Rattle.std.specs.Prelude.{◌≡◌, Bool, ⊤, ◌⊎◌, ℕ, Option, Some, List, [], All, Contains, length, map, option_and_then}
use Rattle.lot_machine.specs.declared.sizes.Sizes.{Sizes}
use Rattle.lot_machine.specs.declared.funding.Node.{Node}
use Rattle.lot_machine.specs.declared.funding.Lend.{Lend}
use Rattle.lot_machine.specs.declared.ticket.Ticket.{Ticket}
use Rattle.lot_machine.specs.declared.record.Record.{Record}
use Rattle.lot_machine.specs.declared.record.Thread.{Thread}
use Rattle.lot_machine.specs.declared.record.Status.{Status}
use Rattle.lot_machine.specs.declared.record.Status.TheVariants.{Running}
use Rattle.lot_machine.specs.Bounds.{IsBetween}
use Rattle.lot_machine.specs.Funding.{Funding}
use Rattle.lot_machine.specs.Lends.{IsLive}
use Rattle.lot_machine.specs.Lottery.{weight, winner}
use Rattle.lot_machine.specs.Numbered.{at_number}
use Rattle.lot_machine.specs.State.{lend_of, live_in, ready_threads, status_of}
use Rattle.lot_machine.specs.Value.{thread_value}
use Rattle.lot_machine.specs.Touched.{IsTouched, PathLeads}
use Rattle.lot_graph.specs.Graphs.{LimitedFunding}
use Rattle.lot_value.specs.declared.meter.Meter.{Meter}
use Rattle.lot_value.specs.Caches.{edges_into_all}
use Rattle.lot_value.specs.Counts.{counted_up}
use Rattle.lot_value.specs.Valued.{Valued}
use Rattle.lot_value.specs.declared.change.GraphChange.{GraphChange}
use Rattle.lot_value.specs.declared.change.GraphChange.TheVariants.{PutThread}
use Rattle.lot_value.specs.Changing.{CanLend, HoldsOfOwners, MovesNothing, currencies_after, tickets_after, owners_after}
use Rattle.lot_draw.specs.declared.competing.Winner.{Winner}
use Rattle.lot_draw.specs.Competing.{AreReady, winner_among}
use Rattle.lot_draw.specs.Queued.{Queued, AreWeights, CompetesIn}
use Rattle.lot_threads.specs.Timely.{IsTimely}
use Rattle.lot_threads.specs.Runners.{AreRunners}

-- The existing currencies, the tickets, and the owner of each mutex; the limits on tickets, user currencies and
-- threads, the unit, the quantum, the number of processors, and the sizes that decide lends; each thread's name and
-- script, and its record; the stale nodes; and the counts.
pub record Threaded : Type 0 where
  pub currencies : List Bool
  pub tickets : List (Option Ticket)
  pub owners : List (Option ℕ)
  pub ticket_limit : ℕ
  pub currency_limit : ℕ
  pub thread_limit : ℕ
  pub unit : ℕ
  pub quantum : ℕ
  pub processors : ℕ
  pub lending : Sizes
  pub threads : List (Option Thread)
  pub records : List Record
  pub stale : List Node
  pub meter : Meter

-- the lends of threads with these records
abbrev pub lends_in : Sizes → List Record → List Lend
lends_in lending records = map (λ r. lend_of lending r.status) records

-- the funding of these threads: tickets, owners, and the lends that follow from the records
abbrev pub funding_in : Threaded → Funding
funding_in v = record { currencies = v.currencies; tickets = v.tickets; lends = lends_in v.lending v.records; owners = v.owners }

-- the funding of these threads, with its limits
abbrev pub limited_in : Threaded → LimitedFunding
limited_in v = record { funding = funding_in v; ticket_limit = v.ticket_limit; currency_limit = v.currency_limit; thread_limit = v.thread_limit }

-- the threads with these records and these stale nodes
abbrev pub with_records : Threaded → List Record → List Node → Threaded
with_records v records stale = record v { records = records; stale = stale }

-- the threads after settling: nothing is stale, and each edge into a stale node is counted once more
abbrev pub settled_in : Threaded → Threaded
settled_in v = record v { stale = []; meter = record v.meter { ticket_reads = counted_up v.meter.ticket_reads (edges_into_all (funding_in v) v.stale) } }

-- the thread exists
abbrev pub IsThreadOf : Threaded → ℕ → Type 0
IsThreadOf v t = IsBetween 1 (length v.records) t

-- the thread is live: Ready or Running
abbrev pub IsLiveIn : Threaded → ℕ → Type 0
IsLiveIn v t = IsLive (live_in v.records) t

-- the node is stale: its cached value must be recomputed before use
abbrev pub IsStaleIn : Threaded → Node → Type 0
IsStaleIn v node = Contains v.stale node

-- the thread may have this status: if it runs, the processor exists and no other thread runs there
abbrev pub CanRun : Threaded → ℕ → Status → Type 0
CanRun v t (Running p used) = IsBetween 1 v.processors p × ((u more : ℕ) → status_of v.records u ≡ Some (Running p more) → u ≡ t)
CanRun v t other = ⊤

-- The thread may have this record: it exists, the record's ticks are within the quantum, and the thread may lend and
-- run as the record says.
pub record CanChange (v : Threaded) (t : ℕ) (next : Record) : Type 0 where
  pub there : IsThreadOf v t
  pub timely : IsTimely v.quantum next
  pub lend : CanLend (funding_in v) t (lend_of v.lending next.status)
  pub run : CanRun v t next.status

-- a thread's value, in base units (4.4)
abbrev pub worth_in : Threaded → ℕ → ℕ
worth_in v t = thread_value v.unit (funding_in v) (live_in v.records) t

-- a thread's weight in a draw (3.4, 4.5)
abbrev pub weight_in : Threaded → ℕ → ℕ
weight_in v t = weight (worth_in v t) (option_and_then (λ r. r.compensation) (at_number v.records t)) v.quantum

-- the winner of a draw with this number: the lottery over the weights of the Ready threads, in ascending order (4.2)
abbrev pub drawn_in : Threaded → ℕ → Option Winner
drawn_in v d = winner_among (ready_threads v.records) (winner (map (weight_in v) (ready_threads v.records)) d)

-- A change makes stale only nodes to which a path of edges, existing before or after it, leads from a node that it
-- touches.
abbrev pub MakesStaleIn : Threaded → Threaded → Type 0
MakesStaleIn old new =
    (x : Node) → IsStaleIn new x → IsStaleIn old x ⊎ ((node : Node) × IsTouched (funding_in old) (funding_in new) (live_in old.records) (live_in new.records) node × PathLeads (funding_in old) (funding_in new) node x)

-- the change leaves the threads alone: it sets neither a lend nor whether a thread is live, since these follow from
-- records
abbrev pub LeavesThreads : GraphChange → Type 0
LeavesThreads (PutThread t lend live) = ⊥
LeavesThreads other = ⊤

-- the threads after such a change, with these stale nodes
abbrev pub applied_in : Threaded → GraphChange → List Node → Threaded
applied_in v c stale = record v { currencies = currencies_after v.currencies c; tickets = tickets_after v.tickets c; owners = owners_after v.owners c; stale = stale }

-- Stale nodes stay stale, and touched nodes reach the new ones; there are none if the change moves nothing. Both owners
-- of a mutex that moves are stale.
pub record StaleByIn (change : GraphChange) (old new : Threaded) : Type 0 where
  pub kept : (node : Node) → IsStaleIn old node → IsStaleIn new node
  pub reached : MakesStaleIn old new
  pub same : MovesNothing change → new.stale ≡ old.stale
  pub owners : HoldsOfOwners change (IsStaleIn new)

-- The graph and the queue match the records: the lends, the live threads, the competitors, and the thread on each
-- processor.
pub record AreOf (lending : Sizes) (v : Valued) (q : Queued) (threads : List (Option Thread)) (records : List Record) (runners : List (Option ℕ)) : Type 0 where
  pub names : length threads ≡ length records
  pub lends : v.now.funding.lends ≡ lends_in lending records
  pub live : v.live ≡ live_in records
  pub ready : AreReady records q.competitors
  pub competes : CompetesIn q.competitors v
  pub weights : AreWeights q v.known
  pub timely : All (IsTimely q.quantum) records
  pub runs : AreRunners records runners
