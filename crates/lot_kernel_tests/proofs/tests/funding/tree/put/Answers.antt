-- The new weight adds at most itself to the total.
use Rattle.lot_kernel_tests.proofs.Common.{arith, sum_by-set}
use Rattle.lot_kernel_tests.proofs.tests.funding.tree.put.Goals as goal

pub set-requires-clause-limited : goal.set-requires-clause-limited
set-requires-clause-limited g c = omega (arith, sum_by-set (λ x. x) c.args.tree.now c.args.i c.args.w 0 (omega arith))
