use Rattle.lot_value.proofs.Common.{HasEachOnce, IsRaising, IsStaleList, LeadsInto, layout_of, node_count, ◌++◌}
use Rattle.lot_value.proofs.settling.raise_sources.Given as goal

-- the edges are those that were looked at and those that are left
abbrev pub invariant-loop-edge : goal.invariant-loop-edge
invariant-loop-edge l = record {
  split : HasEachOnce (l.yielded ++ l.edge-iterator) (LeadsInto l.graph.funding l.fn.node);
  list : IsStaleList l.stale (node_count (layout_of l.graph));
  raising : IsRaising (layout_of l.graph) l.graph.funding l.fn.node l.fn.stale l.stale l.yielded l.raised;
}
