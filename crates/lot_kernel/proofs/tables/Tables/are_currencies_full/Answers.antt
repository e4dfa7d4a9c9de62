use Rattle.lot_kernel.proofs.Lemmas.{Snapshot, ap, are_currencies_full, false, free_currencies, freed_in, held, is_none_free, length, sizes_of, sym, true, ◌&&◌, ◌∙◌, ◌≡◌}
use Rattle.lot_kernel.proofs.Common.{nat_lt}
use Rattle.lot_kernel.proofs.Reusing.{given-currencies}
use Rattle.lot_kernel.proofs.tables.Tables.are_currencies_full.Goals as goal

pub returns-then-is_empty : goal.returns-then-is_empty
returns-then-is_empty c =
    let i = c.self.inside in
    let s = held (sizes_of i.limits) (freed_in i.freed) i.currencies.items i.threads i.queues in
    let none : is_none_free (free_currencies s) ≡ true =
    ap is_none_free (given-currencies s c.self.invariant.none_freed) ∙ sym c.is_empty.ensures ∙ c.if-is_empty.true in
    ap (nat_lt i.limits.currencies) c.len.ensures.value
    ∙ sym (ap (λ b. b && nat_lt s.limits.currencies (length s.currencies)) none)
    ∙ ap (λ (x : Snapshot). are_currencies_full x.state) c.self.view_is

pub returns-else-is_empty : goal.returns-else-is_empty
returns-else-is_empty c =
    let i = c.self.inside in
    let s = held (sizes_of i.limits) (freed_in i.freed) i.currencies.items i.threads i.queues in
    let some : is_none_free (free_currencies s) ≡ false =
    ap is_none_free (given-currencies s c.self.invariant.none_freed) ∙ sym c.is_empty.ensures ∙ c.if-is_empty.false in
    c.if-is_empty.false ∙ sym (ap (λ b. b && nat_lt s.limits.currencies (length s.currencies)) some)
    ∙ ap (λ (x : Snapshot). are_currencies_full x.state) c.self.view_is
