use Rattle.lot_value.proofs.Lemmas.{IsFollowed, IsStaleList, layout_of, length, node_at, node_count, nodes_of, ◌+◌, ◌≡◌}
use Rattle.lot_value.proofs.marking.mark_unlisted.Given as goal

-- as many of the places that were listed after the old ones were followed as there were iterations
abbrev pub invariant-loop : goal.invariant-loop
invariant-loop l = record {
  list : IsStaleList l.stale (node_count (layout_of l.graph));
  is_next : l.next ≡ node_at l.stale 0 (length (nodes_of l.fn.stale 0) + l.counter);
  followed : IsFollowed (layout_of l.graph) l.graph.funding (nodes_of l.fn.stale 0) l.stale l.fn.node l.counter;
}
