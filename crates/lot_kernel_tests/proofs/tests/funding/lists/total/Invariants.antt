use Rattle.lot_kernel_tests.proofs.Common.{get_or, length, nodes_of, sum_by, ◌*◌, ◌++◌, ◌≡◌, ◌≤◌}
use Rattle.lot_kernel_tests.proofs.tests.funding.lists.total.Given as goal

-- the list is what was yielded and what is left, and the sum is that of what was yielded
abbrev pub invariant-loop-node : goal.invariant-loop-node
invariant-loop-node l =
    (nodes_of l.lists l.list ≡ l.yielded ++ l.node-iterator)
    × (l.sum ≡ sum_by (λ node. get_or l.weights node 0) l.yielded) × (l.sum ≤ 4294967295 * length l.yielded)
