-- Active nodes, and the nodes that a call changes, in terms of the machine's definitions.
use Rattle.std.specs.Prelude.{◌≢◌, ◌⊎◌, ◌↔◌, ◌≡◌, ℕ, Bool, Some, List, Contains, map, if◌then◌else◌}
use Rattle.lot_machine.specs.declared.funding.Node.{Node}
use Rattle.lot_machine.specs.declared.funding.Node.TheVariants.{Currency, Thread, Mutex}
use Rattle.lot_machine.specs.Numbered.{option_any}
use Rattle.lot_machine.specs.Funding.{Funding, issuer_of, owner_of}
use Rattle.lot_machine.specs.Lends.{borrower_of, IsBacked, is_backed}
use Rattle.lot_machine.specs.Activity.{IsActive, active_amount}
use Rattle.lot_graph.specs.Graphs.{LimitedFunding, IsNodeOf, HasEachOnce, Reaches}
use Rattle.lot_graph.specs.Places.{node_of, layout_of}
use Rattle.lot_active.specs.Activity.{Activity}

-- the node is active: the currency issues an active ticket, the thread is backed, or the mutex's owner is
abbrev pub IsActiveNode : Funding → List Bool → Node → Type 0
IsActiveNode f live (Currency c) = (n : ℕ) × (issuer_of f n ≡ Some c) × IsActive f live n
IsActiveNode f live (Thread t) = IsBacked f live t
IsActiveNode f live (Mutex m) = (owner : ℕ) × (owner_of f m ≡ Some owner) × IsBacked f live owner

-- The sum of the amounts of the active edges out of a node. A ticket's edge counts its amount, another edge 1.
abbrev pub node_amount : Funding → List Bool → Node → ℕ
node_amount f live (Currency c) = active_amount f live c
node_amount f live (Thread t) = if option_any (is_backed f live) (borrower_of f t) then 1 else 0
node_amount f live (Mutex m) = if option_any (is_backed f live) (owner_of f m) then 1 else 0

-- the node is active before or after, but not both
abbrev pub SwitchesNode : Funding → List Bool → Funding → List Bool → Node → Type 0
SwitchesNode before live now after node =
    (IsActiveNode now after node × (¬ IsActiveNode before live node)) ⊎ (IsActiveNode before live node × (¬ IsActiveNode now after node))

-- the amount of the node changes, and whether it is active doesn't
abbrev pub AdjustsNode : Funding → List Bool → Funding → List Bool → Node → Type 0
AdjustsNode before live now after node = (node_amount now after node ≢ node_amount before live node) × (IsActiveNode now after node ↔ IsActiveNode before live node)

-- the nodes that the last call switched between active and inactive
abbrev pub switched_nodes : LimitedFunding → Activity → List Node
switched_nodes w v = map (node_of (layout_of w)) v.switched

-- the nodes of which the last call changed only the amount
abbrev pub adjusted_nodes : LimitedFunding → Activity → List Node
adjusted_nodes w v = map (node_of (layout_of w)) v.adjusted

-- The lists hold exactly the switched and the adjusted nodes, each once. A path leads from each to the node where the
-- change began.
pub record ChangesNodes (before : LimitedFunding) (live : List Bool) (now : LimitedFunding) (after : List Bool) (begun : Node) (v : Activity) : Type 0 where
  pub switched : HasEachOnce (switched_nodes now v) (λ node. IsNodeOf now node × SwitchesNode before.funding live now.funding after node)
  pub adjusted : HasEachOnce (adjusted_nodes now v) (λ node. IsNodeOf now node × AdjustsNode before.funding live now.funding after node)
  pub leads : (node : Node) → Contains (switched_nodes now v) node ⊎ Contains (adjusted_nodes now v) node → Reaches now.funding node begun
