use Rattle.lot_kernel_tests.proofs.Common.{Currency, HasEachOnce, LeadsInto, edge_amount, length, sum_by, ◌*◌, ◌++◌, ◌+◌, ◌<◌, ◌^◌, ◌≡◌, ◌≤◌}
use Rattle.lot_kernel_tests.proofs.tests.funding.graph.backing_of.Given as goal

-- the sum is that of the edges that were yielded
abbrev pub invariant-loop-edge : goal.invariant-loop-edge
invariant-loop-edge l = record {
  listed : HasEachOnce (l.yielded ++ l.edge-iterator) (LeadsInto l.graph.funding (Currency l.currency));
  sum : l.sum ≡ sum_by (edge_amount l.graph.funding) l.yielded;
  fits : l.sum ≤ 4294967295 * length l.yielded;
  short : length l.yielded + length l.edge-iterator < 2 ^ 32;
}
