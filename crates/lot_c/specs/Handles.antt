-- The ownership of a handle.
use Rattle.std.specs.Prelude.{ℕ, Option, None, Some, [], ◌∷◌}
use base.Fml.{Lft, Share, Fml, ftrue, feq, fex, fsep, flft}
use Rattle.std.specs.Coded.{Coded, coded_option}
use denote.RawPtr.{Ptr, null_ptr, Testable}
use denote.Sharing.{said, beside}
use denote.Struct.Lending.{lent_at}
use Rattle.std.specs.Box.Ownership.{box_owns}
use Rattle.std.specs.declared.alloc.Global.{Global}
use Rattle.std.specs.contracts.impls.GlobalAllocator.TheImpl.{ghosts}
use Rattle.lot_kernel.specs.contracts.kernel.Kernel.{the_row}

-- the kernel that the handle holds, if any
abbrev pub KernelValue : Type 0
KernelValue = Option the_row.Denot

-- a null handle owns nothing, any other owns its box
abbrev pub handle_owns : Global → Ptr → KernelValue → Fml
handle_owns alloc p None = feq Ptr p null_ptr
handle_owns alloc p (Some x) = box_owns (ghosts.dealloc_token alloc) the_row p x

-- For a while a null handle shares nothing, and any other handle its kernel, at a pointer that code may compare with
-- null.
abbrev pub handle_shares : Ptr → KernelValue → Lft → Fml
handle_shares p None = said (feq Ptr p null_ptr)
handle_shares p (Some x) = beside (said (fex (Testable p) (λ _. ftrue))) (lent_at the_row p x)

-- a reader's handle owns what the handle shares for a while, and a share of the promise that this while lasts
abbrev pub reader_owns : Ptr → KernelValue → ℕ → Share → Fml
reader_owns p held life share = fsep (flft (life ∷ []) share) (handle_shares p held (life ∷ []))

-- the coding of `KernelValue`
abbrev pub kernel_coded : Coded KernelValue
kernel_coded = coded_option the_row.coded
