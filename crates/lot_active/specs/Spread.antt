-- Invariants while a change spreads; no public clause cites this file.
use Rattle.std.specs.Prelude.{◌≡◌, ℕ, ◌==◌, ◌<◌, Bool, true, false, not, Some, List, Contains, if◌then◌else◌}
use Rattle.lot_lists.specs.NodeLists.{IsFree}
use Rattle.lot_active.specs.declared.edge_ends.EdgePlaces.{EdgePlaces}
use Rattle.lot_active.specs.Nets.{Net, Reaches}
use Rattle.lot_active.specs.Activity.{amount_from}
use Rattle.lot_active.specs.Held.{Held, In, on_at, held_at}

-- y is x after a move: greater if edges are switched on, less if they are switched off
abbrev pub HasMoved : Bool → ℕ → ℕ → Type 0
HasMoved true x y = x < y
HasMoved false x y = y < x

-- the test with this result at one number
abbrev pub set_at : (ℕ → Bool) → ℕ → Bool → ℕ → Bool
set_at f k b n = if n == k then b else f n

-- The list of each node, by its mark and amount at the start of the call and now. Published is the mark by which the
-- edges into the node counted.
pub record Noted (g : Net) (seed : ℕ) (on : Bool) (was now : Held) (published : ℕ → Bool) : Type 0 where
  pub pending : (n : ℕ) → In now.lists 0 n → (published n ≡ not on) × (on_at now n ≡ on) × (on_at was n ≡ not on)
  pub agrees : (n : ℕ) → ¬ In now.lists 0 n → published n ≡ on_at now n
  pub switched : (n : ℕ) → In now.lists 1 n → (on_at now n ≡ on) × (on_at was n ≡ not on)
  pub adjusted : (n : ℕ) → In now.lists 2 n → HasMoved on (held_at was n) (held_at now n) × (on_at now n ≡ on_at was n)
  pub free : (n : ℕ) → IsFree now.lists n → (held_at now n ≡ held_at was n) × (on_at now n ≡ on_at was n)
  pub upstream : (list n : ℕ) → In now.lists list n → Reaches g n seed

-- each amount is the sum of the counted edges
abbrev pub AddsUp : Net → Held → (ℕ → Bool) → Type 0
AddsUp g h counted = (n : ℕ) → held_at h n ≡ amount_from g counted n

-- between two nodes: each edge counts if and only if its target is published as on
pub record Spreading (g : Net) (seed : ℕ) (on : Bool) (was now : Held) : Type 0 where
  pub published : ℕ → Bool
  pub counted : ℕ → Bool
  pub noted : Noted g seed on was now published
  pub adds_up : AddsUp g now counted
  pub follows : (e : ℕ) (a : EdgePlaces) → g.places e ≡ Some a → counted e ≡ published a.to

-- in the middle of a node's edges: those into node x that are done count by its new mark
pub record Crossing (g : Net) (seed : ℕ) (on : Bool) (was now : Held) (x : ℕ) (done : List ℕ) : Type 0 where
  pub published : ℕ → Bool
  pub counted : ℕ → Bool
  pub noted : Noted g seed on was now published
  pub adds_up : AddsUp g now counted
  pub here : published x ≡ on
  pub reaches : Reaches g x seed
  pub counted_done : (e : ℕ) (a : EdgePlaces) → g.places e ≡ Some a → Contains done e → counted e ≡ on
  pub counted_left : (e : ℕ) (a : EdgePlaces) → g.places e ≡ Some a → a.to ≡ x → ¬ Contains done e → counted e ≡ not on
  pub counted_else : (e : ℕ) (a : EdgePlaces) → g.places e ≡ Some a → ¬ (a.to ≡ x) → counted e ≡ published a.to
