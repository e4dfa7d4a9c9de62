-- Cached values of nodes, and the condition that they are right.
use Rattle.std.specs.Prelude.{◌≡◌, ◌≢◌, ◌⊎◌, ◌↔◌, ℕ, ◌+◌, ◌*◌, ◌^◌, ◌<◌, Bool, List, [], Contains, length, slice_get, slice_index, sum_by, Some}
use Rattle.lot_machine.specs.declared.funding.Node.{Node}
use Rattle.lot_machine.specs.declared.funding.Node.TheVariants.{Currency}
use Rattle.lot_machine.specs.declared.funding.Edge.{Edge}
use Rattle.lot_machine.specs.declared.funding.Edge.TheVariants.{OfTicket}
use Rattle.lot_machine.specs.Funding.{Funding, ends_of, IsEdge, edge_count_into}
use Rattle.lot_machine.specs.Activity.{IsActive, active_amount}
use Rattle.lot_machine.specs.Equations.{HasEquation, shares_into}
use Rattle.lot_graph.specs.declared.layout.Layout.{Layout}
use Rattle.lot_graph.specs.Graphs.{LimitedFunding, IsNodeOf}
use Rattle.lot_graph.specs.Places.{node_place, node_count, layout_of}
use Rattle.lot_active.specs.Activity.{Activity}
use Rattle.lot_active.specs.Changes.{switched_nodes, adjusted_nodes}
use Rattle.lot_active.specs.Fundings.{ends_of_edge}

-- the unit, the places of nodes, the cached value of each node, the stale nodes, and the number of edges read for
-- values
pub record Known : Type 0 where
  pub unit : ℕ
  pub layout : Layout
  pub values : List ℕ
  pub stale : List Node
  pub reads : ℕ

-- the node is stale
abbrev pub IsStale : Known → Node → Type 0
IsStale c node = Contains c.stale node

-- no node is listed twice
abbrev pub HasNoneTwice : List Node → Type 0
HasNoneTwice nodes = (node : Node) (place other : ℕ) → slice_get nodes place ≡ Some node → slice_get nodes other ≡ Some node → place ≡ other

-- no node is listed twice among the stale ones
abbrev pub IsOnce : Known → Type 0
IsOnce c = HasNoneTwice c.stale

-- a node's value in this table of cached values
abbrev pub kept_worth : Layout → List ℕ → Node → ℕ
kept_worth l values node = slice_index values (node_place l node)

-- a node's cached value
abbrev pub value_in : Known → Node → ℕ
value_in c node = kept_worth c.layout c.values node

-- The cache is right except at these nodes: any other node that isn't stale has no stale source, and its value is the
-- sum that the edges into it pass on (4.4).
pub record IsRightBut (w : LimitedFunding) (live : List Bool) (c : Known) (pending : List Node) : Type 0 where
  pub layout : c.layout ≡ layout_of w
  pub places : length c.values ≡ node_count c.layout
  -- edges lead only to nodes with an equation, never to base, and only such nodes are stale
  pub ends : (from to : Node) → IsEdge w.funding from to → HasEquation w.funding to
  pub stale : (node : Node) → IsStale c node → HasEquation w.funding node
  pub sources : (from to : Node) → IsEdge w.funding from to → ¬ IsStale c to → ¬ Contains pending to → ¬ IsStale c from
  pub values : (node : Node) → IsNodeOf w node → ¬ IsStale c node → ¬ Contains pending node → value_in c node ≡ shares_into c.unit w.funding live (value_in c) node

-- the cache is right for a graph and the live threads
abbrev pub IsRight : LimitedFunding → List Bool → Known → Type 0
IsRight w live c = IsRightBut w live c []

-- base's active tickets together are worth less than 2 ^ 64, and so is each node
abbrev pub IsSmall : ℕ → LimitedFunding → List Bool → Type 0
IsSmall unit w live = active_amount w.funding live 0 * unit < 2 ^ 64

-- the number of edges into these nodes
abbrev pub edges_into_all : Funding → List Node → ℕ
edges_into_all f nodes = sum_by (edge_count_into f) nodes

-- one stale node is settled: it alone stops being stale, and no other value changes
pub record Settles (old new : Known) (node : Node) : Type 0 where
  pub unit : new.unit ≡ old.unit
  pub layout : new.layout ≡ old.layout
  pub was : IsStale old node
  pub done : ¬ IsStale new node
  pub fewer : length new.stale + 1 ≡ length old.stale
  pub each : (other : Node) → IsStale new other → IsStale old other
  pub others : (other : Node) → ¬ (other ≡ node) → IsStale old other → IsStale new other
  pub sums : (f : Node → ℕ) → sum_by f new.stale + f node ≡ sum_by f old.stale
  pub values : (place : ℕ) → ¬ (place ≡ node_place old.layout node) → slice_index new.values place ≡ slice_index old.values place

-- A node has one equation in both graphs: the second has no new sources for it, and its sum is equal for any values.
pub record HasSameEquation (unit : ℕ) (before : Funding) (live_before : List Bool) (after : Funding) (live_after : List Bool) (node : Node) : Type 0 where
  pub sources : (from : Node) → IsEdge after from node → IsEdge before from node
  pub sums : (worth : Node → ℕ) → shares_into unit after live_after worth node ≡ shares_into unit before live_before worth node

-- the nodes have equal places in both graphs, and only these nodes have different equations
pub record DiffersAt (unit : ℕ) (before : LimitedFunding) (live_before : List Bool) (after : LimitedFunding) (live_after : List Bool) (changed : List Node) : Type 0 where
  pub layout : layout_of after ≡ layout_of before
  pub ends : (from to : Node) → IsEdge after.funding from to → HasEquation after.funding to
  pub there : (node : Node) → HasEquation before.funding node → HasEquation after.funding node
  pub same : (node : Node) → ¬ Contains changed node → HasSameEquation unit before.funding live_before after.funding live_after node

-- These nodes are the targets of each edge that changes, each ticket that becomes active or inactive, and each ticket
-- of a user currency whose active amount changes.
pub record CoversChange (before : Funding) (live : List Bool) (after : Funding) (now : List Bool) (changed : List Node) : Type 0 where
  pub edges : (edge : Edge) → (ends_of_edge after edge ≡ ends_of_edge before edge) ⊎ ((from to : Node) → (ends_of before edge ≡ Some (from, to)) ⊎ (ends_of after edge ≡ Some (from, to)) → Contains changed to)
  pub marks : (n : ℕ) (from to : Node) → ends_of after (OfTicket n) ≡ Some (from, to) → (IsActive before live n ↔ IsActive after now n) ⊎ Contains changed to
  pub amounts : (c : ℕ) (to : Node) → c ≢ 0 → IsEdge after (Currency c) to → (active_amount after now c ≡ active_amount before live c) ⊎ Contains changed to

-- These nodes include each node with an equation that a call switched, and each target of a ticket of a user currency
-- whose active amount the call changed.
pub record TouchesListed (w : LimitedFunding) (v : Activity) (changed : List Node) : Type 0 where
  pub switched : (node : Node) → Contains (switched_nodes w v) node → HasEquation w.funding node → Contains changed node
  pub targets : (c : ℕ) (to : Node) → c ≢ 0 → Contains (switched_nodes w v) (Currency c) ⊎ Contains (adjusted_nodes w v) (Currency c) → IsEdge w.funding (Currency c) to → Contains changed to
