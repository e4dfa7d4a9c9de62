-- A valued graph in the contracts of `ValuedGraph`, and its invariant.
use Rattle.std.specs.Prelude.{◌≡◌, ◌⊎◌, ◌≤◌, Bool, List, map, length}
use Rattle.lot_machine.specs.declared.funding.Node.{Node}
use Rattle.lot_machine.specs.declared.funding.Node.TheVariants.{Thread}
use Rattle.lot_machine.specs.Numbered.{numbers}
use Rattle.lot_machine.specs.Bounds.{IsUnit}
use Rattle.lot_machine.specs.Touched.{IsTouched, PathLeads}
use Rattle.lot_machine.specs.Equations.{HasEquation}
use Rattle.lot_graph.specs.Graphs.{LimitedFunding, IsNodeOf}
use Rattle.lot_graph.specs.Places.{node_place, layout_of}
use Rattle.lot_active.specs.Activity.{Activity, awake_at}
use Rattle.lot_active.specs.declared.edge_ends.EdgeEnds.{EdgeEnds}
use Rattle.lot_active.specs.Fundings.{IsKeptFor}
use Rattle.lot_value.specs.Caches.{Known, IsStale, IsRight}

-- a funding with its limits, the live threads, and the cache of values
pub record Valued : Type 0 where
  pub now : LimitedFunding
  pub live : List Bool
  pub known : Known

-- for each existing thread, whether it is live in this activity
abbrev pub live_of : LimitedFunding → Activity → List Bool
live_of w v = map (λ t. awake_at v.awake (node_place (layout_of w) (Thread t))) (numbers w.funding.lends)

-- Activity and values match the graph and its live threads, and sizes are within their bounds.
pub record AreTogether (w : LimitedFunding) (v : Activity) (c : Known) : Type 0 where
  pub kept : IsKeptFor v w (live_of w v)
  pub right : IsRight w (live_of w v) c
  pub tickets : w.ticket_limit ≤ 65535
  pub unit : IsUnit c.unit

-- A change makes stale only nodes to which a path of edges, existing before or after it, leads from a node that it
-- touches.
abbrev pub MakesStale : Valued → Valued → Type 0
MakesStale old new =
    (x : Node) → IsStale new.known x → IsStale old.known x ⊎ ((node : Node) × IsTouched old.now.funding new.now.funding old.live new.live node × PathLeads old.now.funding new.now.funding node x)

-- The new graph and live threads are these. It computes no value; stale nodes remain stale, and touched nodes reach the
-- new ones.
pub record Becomes (old new : Valued) (graph : LimitedFunding) (lives : List Bool) : Type 0 where
  pub now : new.now ≡ graph
  pub live : new.live ≡ lives
  pub known : new.known ≡ record old.known { stale = new.known.stale }
  pub kept : (node : Node) → IsStale old.known node → IsStale new.known node
  pub reached : MakesStale old new

-- the new graph is this, as in `Becomes`, with unchanged live threads
abbrev pub FollowsGraph : Valued → Valued → LimitedFunding → Type 0
FollowsGraph old new graph = Becomes old new graph old.live

-- the new live threads are these, as in `Becomes`, with an unchanged graph
abbrev pub FollowsLives : Valued → Valued → List Bool → Type 0
FollowsLives old new lives = Becomes old new old.now lives

-- Activity and values match the second graph, in which these threads are live, and nodes that the change touches reach
-- the new stale ones.
pub record Follows (w now : LimitedFunding) (v new : Activity) (c known : Known) (after : List Bool) : Type 0 where
  pub together : AreTogether now new known
  pub live : live_of now new ≡ after
  pub stale : (x : Node) → IsStale known x → IsStale c x ⊎ ((node : Node) × IsTouched w.funding now.funding (live_of w v) (live_of now new) node × PathLeads w.funding now.funding node x)

-- One edge with these ends was added or removed: the number of threads is unchanged, and the edge's target has an
-- equation and a place.
pub record StandsFor (before after : LimitedFunding) (ends : EdgeEnds) : Type 0 where
  pub threads : length after.funding.lends ≡ length before.funding.lends
  pub has : HasEquation after.funding ends.to
  pub within : IsNodeOf after ends.to
