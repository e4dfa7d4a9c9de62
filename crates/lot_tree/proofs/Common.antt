-- The names that this crate's proofs cite, passed on from one place. Declares nothing.
pub use Rattle.std.proofs.Common.{List, add-one, ap, arith, bit_or, get_or, inl, inr, length, length-set, max, refl, set, subst, suc, sum, sym, take, w64, zero, ℕ, [], ◌%◌, ◌*◌, ◌+◌, ◌-◌, ◌/◌, ◌<◌, ◌^◌, ◌∙◌, ◌∷◌, ◌≡◌, ◌≢◌, ◌≤◌, ◌⊎◌}
pub use Rattle.std.proofs.Math.Nat.{div-div-eq-div-mul, mul-le-mul_right, pow-le-pow_right, pow-suc}
pub use Rattle.std.proofs.lemmas.Bool.{cases_eq, cases_lt, le-leb, le-ltb, lt-leb, lt-ltb}
pub use Rattle.std.proofs.lemmas.List.{get_or-set_other, get_or-set_same, take-set-le, take-take, take_all}
pub use Rattle.std.proofs.lemmas.List.Sums.{sum_by-cons, sum_by-set, sum_by-take-le, sum_by_more}
pub use Rattle.std.proofs.lemmas.Nat.{div-add-mod', div-mul-add, le_or_r, leading_length, mod_below, one_shl, or_shr, pow-add, pow_pos, same_from_place, shr_split}
pub use Rattle.std.proofs.lemmas.Nat.Bits.{bit_at-suc, bit_at-trailing_ones, bit_at_cat_low, bit_at_lowest, bit_at_ones, bit_at_or}
pub use Rattle.std.specs.Int.{bit_at, trailing_ones}
pub use Rattle.std.specs.Int.Bits.{or_self}
pub use lib.Count.{count_leading_zeros}
pub use Rattle.lot_machine.specs.Lottery.{IsFirstAbove, first_above, running_sums}
pub use Rattle.lot_kept.proofs.Rewritten.{rewritten_is}
pub use Rattle.lot_tree.specs.Sums.{AreKept, ArePartialSumsAt, IsPartialSum, Kept}
pub use Rattle.lot_tree.specs.Visits.{CountsReads, counted_up}
