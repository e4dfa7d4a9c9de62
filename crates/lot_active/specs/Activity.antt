-- Active nodes and edges, by definition, and the activity in the contracts of `Active`.
use Rattle.std.specs.Prelude.{◌≡◌, ℕ, zero, suc, ◌+◌, ◌==◌, ◌↔◌, nat_lt, Bool, true, false, ◌||◌, ◌&&◌, ◌⊎◌, Option, Some, None, List, Contains, IsTrue, length, slice_get, slice_index, slice_index_or, if◌then◌else◌}
use Rattle.lot_active.specs.declared.edge_ends.EdgePlaces.{EdgePlaces}
use Rattle.lot_active.specs.Nets.{Net, Reaches}
use Rattle.lot_graph.specs.declared.layout.Layout.{Layout}
use Rattle.lot_graph.specs.Graphs.{HasEachOnce}

-- ---- by definition

-- the node is awake
abbrev pub IsAwake : List Bool → ℕ → Type 0
IsAwake awake n = slice_get awake n ≡ Some true

-- A chain of edges, perhaps empty, leads from the node to an awake one. An edge is active if its target is.
abbrev pub IsActive : Net → List Bool → ℕ → Type 0
IsActive g awake n = (m : ℕ) × Reaches g n m × IsAwake awake m

-- the sum of f 0 to f (m - 1)
abbrev pub sum_below : ℕ → (ℕ → ℕ) → ℕ
sum_below zero f = 0
sum_below (suc m) f = sum_below m f + f m

-- an edge's part in the amount of a node: its own amount if it exists, counts and leaves the node, otherwise 0
abbrev pub part : Option EdgePlaces → Bool → ℕ → ℕ
part None counted n = 0
part (Some a) counted n = if counted && (a.from == n) then a.amount else 0

-- the sum of the amounts of the counted edges out of a node
abbrev pub amount_from : Net → (ℕ → Bool) → ℕ → ℕ
amount_from g counted n = sum_below g.edges (λ e. part (g.places e) (counted e) n)

-- whether the edge exists and its target passes the test
abbrev pub leads_to_passed : (ℕ → Bool) → Option EdgePlaces → Bool
leads_to_passed test None = false
leads_to_passed test (Some a) = test a.to

-- whether the edge with this number exists and its target passes the test
abbrev pub leads_to : Net → (ℕ → Bool) → ℕ → Bool
leads_to g test e = leads_to_passed test (g.places e)

-- the test is true of exactly the active nodes
abbrev pub Tells : Net → List Bool → (ℕ → Bool) → Type 0
Tells g awake test = (n : ℕ) → IsTrue (test n) ↔ IsActive g awake n

-- the number is the sum of the amounts of the active edges out of the node
abbrev pub IsActiveAmount : Net → List Bool → ℕ → ℕ → Type 0
IsActiveAmount g awake n amount = (test : ℕ → Bool) × Tells g awake test × (amount ≡ amount_from g (leads_to g test) n)

-- ---- the activity of a graph

-- the layout; for each node, whether it is awake, and its amount; the nodes that the last call switched on or off,
-- and those of which it changed only the amount
pub record Activity : Type 0 where
  pub layout : Layout
  pub awake : List Bool
  pub amounts : List ℕ
  pub switched : List ℕ
  pub adjusted : List ℕ

-- whether the node is awake
abbrev pub awake_at : List Bool → ℕ → Bool
awake_at awake n = slice_index_or awake n false

-- the amount of the node
abbrev pub amount_at : List ℕ → ℕ → ℕ
amount_at amounts n = slice_index amounts n

-- the mark of a node: whether it is awake or has an amount above 0
abbrev pub is_on : List Bool → List ℕ → ℕ → Bool
is_on awake amounts n = awake_at awake n || nat_lt 0 (amount_at amounts n)

-- the mark of a node in the activity
abbrev pub mark_of : Activity → ℕ → Bool
mark_of v n = is_on v.awake v.amounts n

-- the amount of a node in the activity
abbrev pub amount_of : Activity → ℕ → ℕ
amount_of v n = amount_at v.amounts n

-- The marks and amounts are those of the definitions, at each node.
pub record IsKept (g : Net) (v : Activity) : Type 0 where
  pub awake_length : length v.awake ≡ g.nodes
  pub amounts_length : length v.amounts ≡ g.nodes
  pub marks : Tells g v.awake (mark_of v)
  pub amounts : (n : ℕ) → IsActiveAmount g v.awake n (amount_of v n)

-- ---- the changes of a call

-- the call switched the node on or off
abbrev pub IsSwitched : Activity → Activity → ℕ → Type 0
IsSwitched old new n = ¬ (mark_of new n ≡ mark_of old n)

-- the call changed only the node's amount, and not its mark
abbrev pub IsAdjusted : Activity → Activity → ℕ → Type 0
IsAdjusted old new n = ¬ (amount_of new n ≡ amount_of old n) × (mark_of new n ≡ mark_of old n)

-- The lists hold exactly the nodes whose mark or amount changed, each once, and a path leads from each to the seed.
pub record Changes (g : Net) (seed : ℕ) (old new : Activity) : Type 0 where
  pub switched : HasEachOnce new.switched (IsSwitched old new)
  pub adjusted : HasEachOnce new.adjusted (IsAdjusted old new)
  pub upstream : (n : ℕ) → Contains new.switched n ⊎ Contains new.adjusted n → Reaches g n seed

-- the second net has one edge more, with this number
pub record Adds (old new : Net) (e : ℕ) (a : EdgePlaces) : Type 0 where
  pub nodes : new.nodes ≡ old.nodes
  pub edges : new.edges ≡ old.edges
  pub none : old.places e ≡ None
  pub here : new.places e ≡ Some a
  pub others : (k : ℕ) → ¬ (k ≡ e) → new.places k ≡ old.places k
