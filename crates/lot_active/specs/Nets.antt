-- Nodes and edges with amounts, and the paths along them.
use Rattle.std.specs.Prelude.{◌≡◌, ℕ, ◌^◌, ◌<◌, Option, Some, List, [], ◌∷◌}
use Rattle.lot_active.specs.declared.edge_ends.EdgePlaces.{EdgePlaces}

-- the number of nodes, the largest number of edges, and the ends of each edge, if it exists
pub record Net : Type 0 where
  pub nodes : ℕ
  pub edges : ℕ
  pub places : ℕ → Option EdgePlaces

-- edges lead between existing nodes, and their amounts are from 1 to 4294967295
pub record IsNet (g : Net) : Type 0 where
  pub from : (e : ℕ) (a : EdgePlaces) → g.places e ≡ Some a → a.from < g.nodes
  pub to : (e : ℕ) (a : EdgePlaces) → g.places e ≡ Some a → a.to < g.nodes
  pub some : (e : ℕ) (a : EdgePlaces) → g.places e ≡ Some a → 0 < a.amount
  pub fits : (e : ℕ) (a : EdgePlaces) → g.places e ≡ Some a → a.amount < 2 ^ 32
  pub within : (e : ℕ) (a : EdgePlaces) → g.places e ≡ Some a → e < g.edges
  pub numbered : g.edges < 2 ^ 32

-- an edge leads from one node to the other
abbrev pub HasEdge : Net → ℕ → ℕ → Type 0
HasEdge g from to = (e : ℕ) × (a : EdgePlaces) × (g.places e ≡ Some a) × (a.from ≡ from) × (a.to ≡ to)

-- edges lead from the first node, through these in order, to the last
abbrev pub IsWay : Net → ℕ → List ℕ → ℕ → Type 0
IsWay g from [] to = from ≡ to
IsWay g from (next ∷ rest) to = HasEdge g from next × IsWay g next rest to

-- a path, perhaps empty, leads from one node to the other
abbrev pub Reaches : Net → ℕ → ℕ → Type 0
Reaches g from to = (way : List ℕ) × IsWay g from way to

-- no edge leads to a node from which a path leads back to the edge's start
abbrev pub HasNoCycle : Net → Type 0
HasNoCycle g = (from to : ℕ) → HasEdge g from to → ¬ Reaches g to from

-- the edge with this number exists and leads to the node
abbrev pub EntersAt : Net → ℕ → ℕ → Type 0
EntersAt g node e = (a : EdgePlaces) × (g.places e ≡ Some a) × (a.to ≡ node)
