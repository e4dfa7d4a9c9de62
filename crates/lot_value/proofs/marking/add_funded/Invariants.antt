use Rattle.lot_value.proofs.Lemmas.{Currency, HasEachOnce, IsIssuedIn, IsStaleList, IsTargetOf, OfTicket, Spreads, layout_of, map, node_count, ◌++◌}
use Rattle.lot_value.proofs.marking.add_funded.Given as goal

-- the tickets are those that were yielded and those that are left, and what the former fund was added
abbrev pub invariant-loop-number : goal.invariant-loop-number
invariant-loop-number l = record {
  split : HasEachOnce (l.yielded ++ l.number-iterator) (IsIssuedIn l.graph.funding l.fn.currency);
  list : IsStaleList l.stale (node_count (layout_of l.graph));
  spread : Spreads l.fn.stale l.stale
      (IsTargetOf (layout_of l.graph) l.graph.funding (map OfTicket l.yielded) (Currency l.fn.currency));
}
