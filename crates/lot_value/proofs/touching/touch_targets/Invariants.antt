use Rattle.lot_value.proofs.Common.{Contains, Edge, HasEachOnce, IsEdge, IsStale, LeadsOutOf, Node, Some, Touched, ends_of, ◌++◌, ◌≡◌}
use Rattle.lot_value.proofs.touching.touch_targets.Given as goal

-- the edges are those that were yielded and those that are left
abbrev pub invariant-loop-edge : goal.invariant-loop-edge
invariant-loop-edge l = record {
  split : HasEachOnce (l.yielded ++ l.edge-iterator) (LeadsOutOf l.graph.funding l.fn.node);
  touched : Touched l.graph l.fn.values l.values (IsEdge l.graph.funding l.fn.node);
  marked : (edge : Edge) (to : Node) → Contains l.yielded edge → ends_of l.graph.funding edge ≡ Some (l.fn.node, to)
      → IsStale l.values to;
}
