use Rattle.lot_value.proofs.Common.{IsFundedBy, IsStale, Node, Touched, ◌++◌, ◌≡◌}
use Rattle.lot_value.proofs.touching.touch_funded.Given as goal

-- the nodes are those that were yielded and those that are left
abbrev pub invariant-loop-node : goal.invariant-loop-node
invariant-loop-node l = record {
  split : l.fn.nodes ≡ l.yielded ++ l.node-iterator;
  touched : Touched l.graph l.fn.values l.values (IsFundedBy l.graph l.fn.nodes);
  marked : (to : Node) → IsFundedBy l.graph l.yielded to → IsStale l.values to;
}
