-- The effect of several touches; no public clause cites this file.
use Rattle.std.specs.Prelude.{◌≡◌, ◌≢◌, ◌⊎◌, ℕ, Bool, List, Contains}
use Rattle.lot_machine.specs.declared.funding.Node.{Node}
use Rattle.lot_machine.specs.declared.funding.Node.TheVariants.{Currency}
use Rattle.lot_machine.specs.Funding.{IsEdge}
use Rattle.lot_machine.specs.Equations.{HasEquation, Reaches}
use Rattle.lot_graph.specs.Graphs.{LimitedFunding}
use Rattle.lot_active.specs.Activity.{Activity}
use Rattle.lot_active.specs.Changes.{switched_nodes, adjusted_nodes}
use Rattle.lot_value.specs.Caches.{Known, IsStale, IsRightBut}

-- Only nodes with this property were touched: right values stay right, stale nodes stale, and touched nodes reach the
-- new stale ones.
pub record Touched (w : LimitedFunding) (old new : Known) (IsSuch : Node → Type 0) : Type 0 where
  pub right : (live : List Bool) (pending : List Node) → IsRightBut w live old pending → IsRightBut w live new pending
  pub kept : (x : Node) → IsStale old x → IsStale new x
  pub only : (x : Node) → IsStale new x → IsStale old x ⊎ ((node : Node) × IsSuch node × Reaches w.funding node x)
  pub others : new ≡ record old { stale = new.stale }

-- the node is a user currency
abbrev pub IsUser : Node → Type 0
IsUser node = (c : ℕ) × (node ≡ Currency c) × (c ≢ 0)

-- one of these nodes is a user currency, and a ticket of it funds the node
abbrev pub IsFundedBy : LimitedFunding → List Node → Node → Type 0
IsFundedBy w nodes to = (from : Node) × Contains nodes from × IsUser from × IsEdge w.funding from to

-- a call switched the node, and it has an equation; or a ticket of a user currency that the call switched funds it
abbrev pub IsSwitchedOrFunded : LimitedFunding → Activity → Node → Type 0
IsSwitchedOrFunded w v node = (Contains (switched_nodes w v) node × HasEquation w.funding node) ⊎ IsFundedBy w (switched_nodes w v) node

-- A call switched the node, and it has an equation; or a ticket of a user currency that the call switched or adjusted
-- funds it.
abbrev pub IsListed : LimitedFunding → Activity → Node → Type 0
IsListed w v node =
    (Contains (switched_nodes w v) node × HasEquation w.funding node) ⊎ (IsFundedBy w (switched_nodes w v) node ⊎ IsFundedBy w (adjusted_nodes w v) node)
