use Rattle.lot_kernel.proofs.Common.{opening-order, sizes_of}
use Rattle.lot_kernel.proofs.kernel.Kernel.new.Goals as goal

pub invariant_of-result : goal.invariant_of-result
invariant_of-result c = rw c.in_ok-new.ensures (opening-order (sizes_of c.args.limits) c.args.limits.within_bounds)
