-- A handle may go to another thread if a kernel may.
use Rattle.lot_c.proofs.Common.{AllSend, Exit, Global, IsSend, KernelValue, Keyless, None, Ptr, Quiet, RattleType, Some, block_ptr, exits_of, fields, full_share, handle_owns, hidden, leaves, lies_at, lone, null_ptr, owning_send, part_keyless, sendable, shape, struct_send, the_row, the_type, to, unchanged, under}
use mir.Raw.{raw}
use Rattle.std.proofs.Crossing as heap
use Rattle.std.proofs.alloc.Global.TheSendSync as global
use Rattle.lot_kernel.specs.contracts.kernel.Kernel as kernel
use Rattle.lot_kernel.proofs.kernel.Kernel.TheSendSync.{the_send as kernel_send}

lies : (R : RattleType) → IsSend R → (p : Ptr) (x : R.Denot) → Keyless (lies_at R full_share p x)
lies R s (block_ptr b o) x = part_keyless R s full_share x b o
lies R s null_ptr x = tt

owned : (alloc : Global) (p : Ptr) (held : KernelValue) → Keyless (handle_owns alloc p held)
owned alloc p None = tt
owned alloc p (Some k) = (lies kernel.the_row kernel_send p k, heap.frees.frees alloc (raw (lone kernel.the_row.mir)) p)

quiet : {D X : Type 0} (along : D → X) (e : Exit X) → Quiet e → Quiet (hidden (under along e))
quiet along unchanged q = λ x w. tt
quiet along (leaves L l S s r₀) q = λ d. q (along d)

pub send : IsSend the_row
send =
    let all : AllSend (fields the_type) = (search sendable, (global.the_field_send, tt)) in
    owning_send the_type all (λ d. owned d.alloc d.at d.kernel)
    (λ k. quiet (to the_type) (exits_of k (fields the_type)) ((struct_send (shape the_type) all).leaving k))
