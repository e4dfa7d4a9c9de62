-- A kernel lent by its handle, in place.
use Rattle.std.specs.Prelude.{Option, Some}
use Rattle.std.specs.Borrow.{Lends, LendsIf, MutBor, Fml}
use Rattle.lot_kernel.specs.contracts.kernel.Kernel as kernel
use Rattle.lot_c.specs.declared.handle.Handle.{Handle}
use Rattle.lot_c.specs.contracts.handle.Handle.{the_row}

-- the handle with this kernel in place of its own
abbrev pub with_kernel : Handle → kernel.the_row.Denot → Handle
with_kernel h k = record h { kernel = Some k }

-- the handle ends with the last value of the kernel behind r
abbrev pub LendsKernel : MutBor Handle → MutBor kernel.the_row.Denot → Fml
LendsKernel h r = Lends the_row kernel.the_row h r (with_kernel h.now)

-- the handle ends so if it lends a kernel, and otherwise unchanged
abbrev pub LendsKernelIf : MutBor Handle → Option (MutBor kernel.the_row.Denot) → Fml
LendsKernelIf h r = LendsIf the_row kernel.the_row h r (with_kernel h.now) h.now
