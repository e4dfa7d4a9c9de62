use Rattle.lot_kernel.proofs.Lemmas.{IsFree, next-free, subst, sym}
use Rattle.lot_kernel.proofs.tables.Tables.add_currency_last.Goals as goal

pub add-requires-clause-free : goal.add-requires-clause-free
add-requires-clause-free c =
    let i = c.self.inside in
    subst (λ n. IsFree i.currency_index n) (sym c.len-number.ensures.value)
    (next-free i.currency_index i.currencies.items c.self.invariant.currency_index)
