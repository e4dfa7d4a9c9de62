-- The names and the lemmas that the proofs of this crate's functions cite, passed on from one place. Declares nothing.
pub use Rattle.lot_curves.proofs.Common.{Curves, List, Stretch, ap, arith, drop, had_in, last_end, length, map, min, rules, slice_set, stretch_between, stretches_of, sym, take, take_all, take_at, ◌++◌, ◌+◌, ◌-◌, ◌∙◌, ◌≡◌, ◌≤◌}
pub use Rattle.lot_curves.proofs.Cuts.{changed-more, last_end-between}
pub use Rattle.lot_curves.proofs.Rows.{row-is}
