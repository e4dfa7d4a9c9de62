-- The queue in the contracts of `RunQueue`.
use Rattle.std.specs.Prelude.{◌≡◌, ℕ, ◌-◌, ◌^◌, ◌<◌, ◌≤◌, Option, Some, List, [], All, Contains, length, slice_index}
use Rattle.lot_lists.specs.NodeLists.{NodeLists}
use Rattle.lot_machine.specs.declared.funding.Node.TheVariants.{Thread}
use Rattle.lot_machine.specs.Value.{thread_value}
use Rattle.lot_graph.specs.Graphs.{IsThread}
use Rattle.lot_value.specs.Caches.{Known, IsStale, value_in}
use Rattle.lot_value.specs.Valued.{Valued}
use Rattle.lot_value.specs.Marking.{IsStaleList as IsOneList}
use Rattle.lot_draw.specs.declared.competing.Competitor.{Competitor}
use Rattle.lot_draw.specs.Competing.{HasTicks, weight_among, competitor_at}

-- The quantum; for each possible thread, its part in a draw, if it competes, and its weight in the tree; the places of
-- the threads whose weight may have to change, with thread 1 at place 0; and the number of places visited in the tree.
pub record Queued : Type 0 where
  pub quantum : ℕ
  pub competitors : List (Option Competitor)
  pub weights : List ℕ
  pub changed : List ℕ
  pub visits : ℕ

-- the thread's weight may have to change
abbrev pub IsChanged : Queued → ℕ → Type 0
IsChanged q t = Contains q.changed (t - 1)

-- the thread's number is within the limit on threads
abbrev pub IsPlaced : Queued → ℕ → Type 0
IsPlaced q t = (0 < t) × (t ≤ length q.competitors)

-- the thread's weight, given the threads' values: 0 if it doesn't compete
abbrev pub weight_of : Queued → (ℕ → ℕ) → ℕ → ℕ
weight_of q worth t = weight_among q.quantum q.competitors worth t

-- Each thread that is neither stale nor changed has its weight in the tree: from its cached value if it competes, and
-- otherwise 0.
abbrev pub AreWeights : Queued → Known → Type 0
AreWeights q c =
    (t : ℕ) → IsPlaced q t → ¬ IsStale c (Thread t) → ¬ IsChanged q t → slice_index q.weights (t - 1) ≡ weight_of q (λ u. value_in c (Thread u)) t

-- only existing threads compete, and there is a place for each possible thread
pub record CompetesIn (competitors : List (Option Competitor)) (v : Valued) : Type 0 where
  pub places : length competitors ≡ v.now.thread_limit
  pub there : (t : ℕ) (c : Competitor) → competitor_at competitors t ≡ Some c → IsThread v.now.funding t

-- the cached value of each existing thread that isn't stale is the thread's value
abbrev pub HasWorths : Valued → Type 0
HasWorths v =
    (t : ℕ) → IsThread v.now.funding t → t ≤ v.now.thread_limit → ¬ IsStale v.known (Thread t) → value_in v.known (Thread t) ≡ thread_value v.known.unit v.now.funding v.live t

-- nothing is stale and all cached values are right, so that weights can be set from them
pub record IsSettled (v : Valued) : Type 0 where
  pub stale : v.known.stale ≡ []
  pub worths : HasWorths v

-- the fields of a queue hold these weights, this list of changed threads and these competitors; no public clause
-- cites this
pub record IsQueue (weights : List ℕ) (changed : NodeLists) (competitors : List (Option Competitor)) : Type 0 where
  pub places : length weights ≡ length competitors
  pub list : IsOneList changed (length competitors)
  pub few : length competitors ≤ 65535
  pub light : All (λ w. w < 2 ^ 96) weights
  pub ticks : All HasTicks competitors
