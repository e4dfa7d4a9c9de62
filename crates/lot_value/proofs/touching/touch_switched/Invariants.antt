use Rattle.lot_value.proofs.Common.{Contains, HasEquation, IsFundedBy, IsStale, IsSwitchedOrFunded, Node, Touched, switched_nodes, ◌++◌, ◌≡◌}
use Rattle.lot_value.proofs.touching.touch_switched.Given as goal

-- the nodes are those that were yielded and those that are left
abbrev pub invariant-loop-node : goal.invariant-loop-node
invariant-loop-node l = record {
  split : switched_nodes l.graph l.active ≡ l.yielded ++ l.node-iterator;
  touched : Touched l.graph l.fn.values l.values (IsSwitchedOrFunded l.graph l.active);
  marked : (x : Node) → Contains l.yielded x → HasEquation l.graph.funding x → IsStale l.values x;
  funded : (to : Node) → IsFundedBy l.graph l.yielded to → IsStale l.values to;
}
