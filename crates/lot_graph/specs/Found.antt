-- The nodes found by a search against the edges, in the contracts of `Above`.
use Rattle.std.specs.Prelude.{◌↔◌, ℕ, List, Contains}
use Rattle.lot_machine.specs.declared.funding.Node.{Node}
use Rattle.lot_machine.specs.declared.funding.Node.TheVariants.{Currency}
use Rattle.lot_machine.specs.Funding.{Funding}
use Rattle.lot_graph.specs.declared.layout.Layout.{Layout}
use Rattle.lot_graph.specs.Graphs.{Reaches}

-- the layout of the graphs to search, and the nodes that the last search found
pub record FoundNodes : Type 0 where
  pub layout : Layout
  pub nodes : List Node

-- the currency is among the found nodes
abbrev pub HasFound : FoundNodes → ℕ → Type 0
HasFound v c = Contains v.nodes (Currency c)

-- a node is among the found ones if and only if a path of edges, perhaps empty, leads from it to this node
abbrev pub IsAbove : Funding → Node → FoundNodes → Type 0
IsAbove f node v = (x : Node) → Contains v.nodes x ↔ Reaches f x node
