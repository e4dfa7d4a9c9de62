-- Changes of the list of stale nodes within calls; no public clause cites this file.
use Rattle.std.specs.Prelude.{◌≡◌, ◌⊎◌, ℕ, ◌-◌, Bool, true, false, Option, Some, Contains, List, length, map, sum_by}
use Rattle.lot_lists.specs.NodeLists.{NodeLists, nodes_of, node_at, IsConsistent}
use Rattle.lot_machine.specs.declared.funding.Node.{Node}
use Rattle.lot_machine.specs.declared.funding.Edge.{Edge}
use Rattle.lot_machine.specs.Funding.{Funding, IsEdge, ends_of}
use Rattle.lot_machine.specs.Equations.{Reaches}
use Rattle.lot_graph.specs.declared.layout.Layout.{Layout}
use Rattle.lot_graph.specs.Places.{node_place, node_of}
use Rattle.lot_value.specs.Caches.{Known}

-- there is one list, over the places of all nodes
pub record IsStaleList (v : NodeLists) (count : ℕ) : Type 0 where
  pub one : length v.lists ≡ 1
  pub nodes : v.nodes ≡ count
  pub consistent : IsConsistent v

-- an edge leads from the node to the node at this place
abbrev pub LeadsToPlace : Layout → Funding → Node → ℕ → Type 0
LeadsToPlace l f from place = (to : Node) × IsEdge f from to × (node_place l to ≡ place)

-- an edge leads from the node at this place to the other node
abbrev pub LeadsFromPlace : Layout → Funding → ℕ → Node → Type 0
LeadsFromPlace l f place to = (from : Node) × IsEdge f from to × (node_place l from ≡ place)

-- the places of the stale nodes
abbrev pub stale_places : Known → List ℕ
stale_places c = map (node_place c.layout) c.stale

-- the place is listed, and the places of its node's sources aren't
pub record IsFreshPlace (l : Layout) (f : Funding) (places : List ℕ) (place : ℕ) : Type 0 where
  pub listed : Contains places place
  pub sources : (from : Node) → IsEdge f from (node_of l place) → ¬ Contains places (node_place l from)

-- listed places keep their positions, and exactly the places with this property are added after them
pub record Spreads (old new : NodeLists) (IsSo : ℕ → Type 0) : Type 0 where
  pub kept : (place x : ℕ) → node_at old 0 place ≡ Some x → node_at new 0 place ≡ Some x
  pub each : (x : ℕ) → Contains (nodes_of new 0) x → Contains (nodes_of old 0) x ⊎ IsSo x
  pub all : (x : ℕ) → IsSo x → Contains (nodes_of new 0) x

-- The node is marked with all nodes that it reaches: stale nodes remain stale, no other node becomes so, and an edge
-- out of the stale nodes led out of them before.
pub record Marks (l : Layout) (f : Funding) (old new : List ℕ) (node : Node) : Type 0 where
  pub kept : (x : ℕ) → Contains old x → Contains new x
  pub marked : Contains new (node_place l node)
  pub only : (x : ℕ) → Contains new x → Contains old x ⊎ Reaches f node (node_of l x)
  pub tight : (from to : ℕ) → LeadsToPlace l f (node_of l from) to → Contains new from → ¬ Contains new to → Contains old from

-- The node is marked with all that it reaches, as `Marks` says, by nodes in place of places.
pub record MarksNodes (f : Funding) (old new : List Node) (node : Node) : Type 0 where
  pub kept : (x : Node) → Contains old x → Contains new x
  pub marked : Contains new node
  pub only : (x : Node) → Contains new x → Contains old x ⊎ Reaches f node x
  pub tight : (from to : Node) → IsEdge f from to → Contains new from → ¬ Contains new to → Contains old from

-- the second list has the elements of the first, in any order
pub record IsReordered {A : Type 0} (old new : List A) : Type 0 where
  pub each : (x : A) → Contains new x → Contains old x
  pub all : (x : A) → Contains old x → Contains new x
  pub sums : (f : A → ℕ) → sum_by f new ≡ sum_by f old

-- the place at the back
abbrev pub last_of : NodeLists → Option ℕ
last_of v = node_at v 0 (length (nodes_of v 0) - 1)

-- Some edges into a node were seen, and their stale sources moved: if there was one, the place at the back is a
-- source's, otherwise the list is unchanged.
pub record IsRaising (l : Layout) (f : Funding) (node : Node) (old now : NodeLists) (seen : List Edge) (raised : Bool) : Type 0 where
  pub reordered : IsReordered (nodes_of old 0) (nodes_of now 0)
  pub source : raised ≡ true → (place : ℕ) × (last_of now ≡ Some place) × LeadsFromPlace l f place node
  pub same : raised ≡ false → now ≡ old
  pub none : raised ≡ false → (edge : Edge) (from : Node) → Contains seen edge → ends_of f edge ≡ Some (from, node) → ¬ Contains (nodes_of old 0) (node_place l from)
