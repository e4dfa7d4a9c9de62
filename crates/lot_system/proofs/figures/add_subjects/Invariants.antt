use Rattle.lot_system.proofs.Common.{Figures, figures_after, length, slice_index_or, told_at_end, ℕ, ◌+◌, ◌<◌, ◌≡◌, ◌≤◌}
use Rattle.lot_system.proofs.figures.add_subjects.Given as goal

-- the figures of the subjects passed so far have those of the play, and the others are unchanged
abbrev pub invariant-loop-place : goal.invariant-loop-place
invariant-loop-place l = record {
  same : l.system ≡ l.fn.system;
  count : length l.figures.items ≡ length l.fn.figures.items;
  done : (place : ℕ) (d : Figures) → place < l.place → slice_index_or l.figures.items place d
      ≡ figures_after (told_at_end l.fn.system l.fn.order l.fn.subject (place + 1))
      (slice_index_or l.fn.figures.items place d);
  others : (place : ℕ) (d : Figures) → l.place ≤ place
      → slice_index_or l.figures.items place d ≡ slice_index_or l.fn.figures.items place d;
}
