-- The names and the lemmas that the proofs of this crate's functions cite, passed on from one place. Declares nothing.
pub use Rattle.lot_tree.proofs.Common.{AreKept, Kept, List, ap, arith, cases_lt, get_or, get_or-set_other, inl, inr, le-leb, le_or_r, length, lt-leb, one_shl, pow-le-pow_right, pow_pos, refl, rewritten_is, set, subst, sym, trailing_ones, w64, ℕ, ◌%◌, ◌*◌, ◌+◌, ◌-◌, ◌<◌, ◌^◌, ◌∙◌, ◌≡◌, ◌≤◌, ◌⊎◌}
pub use Rattle.lot_tree.proofs.Descent.{IsDrawn-from_IsNarrowed, IsNarrowed, IsNarrowed_left, IsNarrowed_right, IsNarrowed_short, left-within, short-block, whole-block, whole-half}
pub use Rattle.lot_tree.proofs.Levels.{AreKept-grown, AreKept-written, IsClimbed, IsWrittenBelow_past, IsWrittenBelow_top, last_below, last_sum_within, last_sum_written, level-room, lowest-below, next-last}
pub use Rattle.lot_tree.proofs.Visits.{CountsReads-from_IsCounted, IsCounted, IsCounted_read, IsCounted_short, IsUncounted}
