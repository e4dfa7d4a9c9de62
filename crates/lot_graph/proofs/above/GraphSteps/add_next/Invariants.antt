use Rattle.lot_graph.proofs.Lemmas.{HasEachOnce, IsFoundList, IsOfSome, LeadsInto, Spreads, tail_of, ◌++◌}
use Rattle.lot_graph.proofs.above.GraphSteps.add_next.Given as goal

-- the edges into the node are those that were yielded and those that are left, and the tails of the former were added
abbrev pub invariant-loop-edge : goal.invariant-loop-edge
invariant-loop-edge l = record {
  split : HasEachOnce (l.yielded ++ l.edge-iterator) (LeadsInto l.self.funding l.fn.node);
  found_list : IsFoundList l.layout l.found;
  spread : Spreads l.fn.found l.found (IsOfSome l.layout (tail_of l.self.funding) l.yielded);
}
