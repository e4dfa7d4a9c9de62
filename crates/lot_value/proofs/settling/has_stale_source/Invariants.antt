use Rattle.lot_value.proofs.Common.{Contains, HasEachOnce, IsRaising, LeadsFromPlace, LeadsInto, OnTrue, false, layout_of, nodes_of, ℕ, ◌++◌, ◌≡◌}
use Rattle.lot_value.proofs.settling.has_stale_source.Given as goal

-- the edges are those that were looked at and those that are left, and of those looked at one has a stale source, or none has
abbrev pub invariant-loop-edge : goal.invariant-loop-edge
invariant-loop-edge l = record {
  split : HasEachOnce (l.yielded ++ l.edge-iterator) (LeadsInto l.graph.funding l.fn.node);
  found : OnTrue l.found ((place : ℕ) × Contains (nodes_of l.stale 0) place
      × LeadsFromPlace (layout_of l.graph) l.graph.funding place l.fn.node);
  fresh : l.found ≡ false → IsRaising (layout_of l.graph) l.graph.funding l.fn.node l.stale l.stale l.yielded false;
}
