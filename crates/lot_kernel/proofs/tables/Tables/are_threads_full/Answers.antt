use Rattle.lot_kernel.proofs.Lemmas.{List, Option, Snapshot, Thread, ap, are_threads_full, false, free_threads, freed_in, given-threads, held, is_none_free, length, nat_le, sizes_of, sym, true, ◌&&◌, ◌∙◌, ◌≡◌}
use Rattle.lot_kernel.proofs.tables.Tables.are_threads_full.Goals as goal

pub returns-then-is_empty : goal.returns-then-is_empty
returns-then-is_empty c =
    let i = c.self.inside in
    let s = held (sizes_of i.limits) (freed_in i.freed) i.currencies.items i.threads i.queues in
    let none : is_none_free (free_threads s) ≡ true = ap is_none_free (given-threads s c.self.invariant.none_freed)
    ∙ sym c.is_empty.ensures ∙ c.if-is_empty.true in
    ap (λ (ts : List (Option Thread)). nat_le i.limits.threads (length ts)) c.threads.ensures
    ∙ sym (ap (λ b. b && nat_le s.limits.threads (length s.threads)) none)
    ∙ ap (λ (x : Snapshot). are_threads_full x.state) c.self.view_is

pub returns-else-is_empty : goal.returns-else-is_empty
returns-else-is_empty c =
    let i = c.self.inside in
    let s = held (sizes_of i.limits) (freed_in i.freed) i.currencies.items i.threads i.queues in
    let some : is_none_free (free_threads s) ≡ false = ap is_none_free (given-threads s c.self.invariant.none_freed)
    ∙ sym c.is_empty.ensures ∙ c.if-is_empty.false in
    c.if-is_empty.false ∙ sym (ap (λ b. b && nat_le s.limits.threads (length s.threads)) some)
    ∙ ap (λ (x : Snapshot). are_threads_full x.state) c.self.view_is
