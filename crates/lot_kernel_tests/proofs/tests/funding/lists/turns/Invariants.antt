use Rattle.std.proofs.Common.{◌≡◌, length}
use Rattle.lot_kernel_tests.specs.declared.tests.funding.lists.TheConstants.{LISTS, NODES}
use Rattle.lot_kernel_tests.proofs.tests.funding.lists.turns.Given as goal

-- there are still as many lists and nodes
abbrev pub invariant-loop : goal.invariant-loop
invariant-loop g l = (l.lists.nodes ≡ NODES) × (length l.lists.lists ≡ LISTS)
