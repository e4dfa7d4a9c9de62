-- The activity of a graph; adding one edge; and a funding as a net, with its nodes and edges by place.
use Rattle.std.specs.Prelude.{◌≡◌, ℕ, Bool, Option, Some, None, List, option_map, unwrap_or}
use Rattle.lot_machine.specs.declared.funding.Node.{Node}
use Rattle.lot_machine.specs.declared.funding.Node.TheVariants.{Thread}
use Rattle.lot_machine.specs.declared.funding.Edge.{Edge}
use Rattle.lot_machine.specs.declared.funding.Edge.TheVariants.{OfTicket}
use Rattle.lot_machine.specs.Funding.{Funding, ends_of, ticket_at}
use Rattle.lot_machine.specs.Lends.{IsLive}
use Rattle.lot_graph.specs.declared.layout.Layout.{Layout}
use Rattle.lot_graph.specs.Graphs.{LimitedFunding, IsSound}
use Rattle.lot_graph.specs.Places.{node_place, IsNodeWithin, node_count, edge_at, edge_count, layout_of, FitsLimits}
use Rattle.lot_active.specs.declared.edge_ends.EdgeEnds.{EdgeEnds}
use Rattle.lot_active.specs.declared.edge_ends.EdgePlaces.{EdgePlaces}
use Rattle.lot_active.specs.Nets.{Net}
use Rattle.lot_active.specs.Activity.{IsAwake, Activity, IsKept}

-- the amount of an edge: a ticket's own, or 1 for another edge
abbrev pub counted_amount : Funding → Edge → ℕ
counted_amount f (OfTicket n) = unwrap_or (option_map (λ t. t.amount) (ticket_at f n)) 0
counted_amount f other = 1

-- the ends of an edge, and its amount, if the edge exists
abbrev pub ends_of_edge : Funding → Edge → Option EdgeEnds
ends_of_edge f edge = option_map (λ ends. record { from = ends.0; to = ends.1; amount = counted_amount f edge }) (ends_of f edge)

-- an edge's ends by their places, and its amount
abbrev pub places_of_ends : Layout → EdgeEnds → EdgePlaces
places_of_ends l ends = record { from = node_place l ends.from; to = node_place l ends.to; amount = ends.amount }

-- the ends of an edge by their places, and its amount, if the edge exists
abbrev pub places_of_edge : Layout → Funding → Edge → Option EdgePlaces
places_of_edge l f edge = option_map (λ ends. record { from = node_place l ends.0; to = node_place l ends.1; amount = counted_amount f edge }) (ends_of f edge)

-- a funding as a net, in this layout
abbrev pub net_of : Layout → Funding → Net
net_of l f = record { nodes = node_count l; edges = edge_count l; places = λ place. places_of_edge l f (edge_at l place) }

-- the live threads are awake, and no other node is
pub record AwakeAre (l : Layout) (live : List Bool) (awake : List Bool) : Type 0 where
  pub lives : (x : ℕ) → IsAwake awake x → (t : ℕ) × (x ≡ node_place l (Thread t)) × IsNodeWithin l (Thread t) × IsLive live t
  pub wakes : (t : ℕ) → IsNodeWithin l (Thread t) → IsLive live t → IsAwake awake (node_place l (Thread t))

-- an edge between two nodes, with this amount
abbrev pub edge_between : ℕ → Node → Node → EdgeEnds
edge_between amount from to = record { from = from; to = to; amount = amount }

-- the net of a graph
abbrev pub graph_net : LimitedFunding → Net
graph_net w = net_of (layout_of w) w.funding

-- The activity is right for a graph and its live threads: the graph's places, exactly these threads awake, and
-- amounts and marks as defined.
pub record IsKeptFor (v : Activity) (w : LimitedFunding) (live : List Bool) : Type 0 where
  pub sound : IsSound w.funding
  pub fits : FitsLimits w
  pub layout : v.layout ≡ layout_of w
  pub awake : AwakeAre (layout_of w) live v.awake
  pub kept : IsKept (graph_net w) v

-- The second graph has this edge in addition; all other edges are equal.
pub record AddsEdge (less more : LimitedFunding) (edge : Edge) (ends : EdgeEnds) : Type 0 where
  pub layout : layout_of more ≡ layout_of less
  pub none : ends_of_edge less.funding edge ≡ None
  pub here : ends_of_edge more.funding edge ≡ Some ends
  pub others : (other : Edge) → ¬ (other ≡ edge) → ends_of_edge more.funding other ≡ ends_of_edge less.funding other
