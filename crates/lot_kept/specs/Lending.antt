-- A table after a returned `&mut` to its elements ends.
use Rattle.std.specs.Prelude.{ℕ, List, slice_set}
use Rattle.std.specs.Borrow.{Lends, Array, Fml, RattleType, MutBor}
use Rattle.lot_kept.specs.Table.{Full, Stacked, rewritten}
use Rattle.lot_kept.specs.contracts.kept.Kept.{the_row as kept_row}
use Rattle.lot_kept.specs.contracts.stack.Stack.{the_row as stack_row}

module _ (T : RattleType) (k : MutBor (Full T.Denot)) where
  -- once the borrow r ends, the index has the last value written through r
  abbrev pub lends_item : ℕ → MutBor T.Denot → Fml
  lends_item i r = Lends (kept_row T) T k r (λ value. record { items = slice_set k.now.items i value })

  -- once the borrow r ends, the elements are those that r shows last
  abbrev pub lends_slice : MutBor (List T.Denot) → Fml
  lends_slice r = Lends (kept_row T) (Array T 0) k r (λ written. record { items = rewritten k.now.items written })

-- the same for a stack, whose capacity stays
module _ (T : RattleType) (s : MutBor (Stacked T.Denot)) where
  abbrev pub lends_stacked_item : ℕ → MutBor T.Denot → Fml
  lends_stacked_item i r = Lends (stack_row T) T s r (λ value. record s.now { items = slice_set s.now.items i value })

  abbrev pub lends_stacked_slice : MutBor (List T.Denot) → Fml
  lends_stacked_slice r =
      Lends (stack_row T) (Array T 0) s r (λ written. record s.now { items = rewritten s.now.items written })
