-- A reader's handle may go to another thread if several threads may read a kernel.
use Rattle.lot_c.proofs.Common.{AllSend, Common, Exit, IsSend, KernelValue, Keyless, None, Ptr, Quiet, Some, block_of, block_ptr, count_of, exits_of, fields, ftrue, handle_shares, hidden, in_block, leaves, null_ptr, owning_send, sendable, shape, struct_send, to, unchanged, under, [], ◌∷◌}
use Rattle.lot_kernel.proofs.kernel.Kernel.TheSendSync.{the_sync as kernel_sync}
use Rattle.lot_c.specs.contracts.reader.ReadHandle.{the_row, the_type}

quiet : {D X : Type 0} (along : D → X) (e : Exit X) → Quiet e → Quiet (hidden (under along e))
quiet along unchanged q = λ x w. tt
quiet along (leaves L l S s r₀) q = λ d. q (along d)

inside : (p : Ptr) → Keyless (in_block p ftrue)
inside (block_ptr b o) = tt
inside null_ptr = tt

shared : (p : Ptr) (held : KernelValue) → Common (handle_shares p held)
shared p None κ = tt
shared p (Some k) κ = ((λ _. tt), (inside p, kernel_sync.shared k (block_of p) (count_of p) κ))

pub send : IsSend the_row
send =
    let all : AllSend (fields the_type) = (search sendable, tt) in
    owning_send the_type all (λ d. (tt, shared d.at d.kernel (d.life ∷ [])))
    (λ k. quiet (to the_type) (exits_of k (fields the_type)) ((struct_send (shape the_type) all).leaving k))
