use Rattle.lot_value.proofs.Lemmas.{IsReordered, IsStaleList, last_of, layout_of, node_count, nodes_of, rank_of}
use Rattle.lot_value.proofs.settling.fresh_back.Given as goal

-- the stale nodes are those of before in some order
abbrev pub invariant-loop-place : goal.invariant-loop-place
invariant-loop-place l = record {
  list : IsStaleList l.stale (node_count (layout_of l.graph));
  reordered : IsReordered (nodes_of l.fn.stale 0) (nodes_of l.stale 0);
}

-- the rank of the node at the back falls
abbrev pub decreases-loop-place : goal.decreases-loop-place
decreases-loop-place l = rank_of (layout_of l.graph) l.graph.funding (last_of l.stale)
