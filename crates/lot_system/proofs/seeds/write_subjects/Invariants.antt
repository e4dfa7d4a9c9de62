use Rattle.lot_system.proofs.Common.{Appends, false, figures_over, figures_text, flat_map, range_with_len, seeds_between, ◌≡◌}
use Rattle.lot_system.proofs.seeds.write_subjects.Given as goal

-- the lines or rows of the subjects passed so far are written
abbrev pub invariant-loop-place : goal.invariant-loop-place
invariant-loop-place g l = record {
  working : l.writer.failed ≡ false;
  bytes : Appends (g.W.Write.contents l.fn.writer.inner) (g.W.Write.contents l.writer.inner)
      (flat_map (λ n. figures_text l.fn.table l.fn.subject n (figures_over l.fn.subject l.fn.program
      (seeds_between l.fn.seeds.first l.fn.seeds.last) n)) (range_with_len 1 l.place));
}
