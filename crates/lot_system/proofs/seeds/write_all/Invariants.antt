use Rattle.lot_system.proofs.Common.{None, all_subjects, false, flat_map, length, seeds_between, subjects_over, ◌≡◌}
use Rattle.lot_system.proofs.WritingFacts.{IsPart}
use Rattle.lot_system.proofs.seeds.write_all.Given as goal

-- the lines written and those of the subjects that are left are all
abbrev pub invariant-loop-rest : goal.invariant-loop-rest
invariant-loop-rest g l = record {
  working : l.writer.failed ≡ false;
  bytes : IsPart (subjects_over None l.fn.program (seeds_between l.fn.seeds.first l.fn.seeds.last))
      (g.W.Write.contents l.fn.writer.inner) (g.W.Write.contents l.writer.inner)
      (flat_map (subjects_over None l.fn.program (seeds_between l.fn.seeds.first l.fn.seeds.last)) all_subjects) l.rest;
}

abbrev pub decreases-loop-rest : goal.decreases-loop-rest
decreases-loop-rest g l = length l.rest
