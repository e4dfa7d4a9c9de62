use Rattle.lot_system.proofs.Common.{all_subjects, false, flat_map, length, moment_in, subjects_text, timed_turns, ◌≡◌}
use Rattle.lot_simulation.specs.declared.columns.Layout.TheVariants.{InLine}
use Rattle.lot_system.proofs.WritingFacts.{IsPart}
use Rattle.lot_system.proofs.timed_report.write_all.Given as goal

-- the lines written and those of the subjects that are left are all
abbrev pub invariant-loop-rest : goal.invariant-loop-rest
invariant-loop-rest g l = record {
  working : l.writer.failed ≡ false;
  system : l.system ≡ l.fn.system;
  bytes : IsPart (subjects_text InLine (moment_in l.fn.system l.fn.timekeeper) l.fn.ending.time (timed_turns
      l.fn.system.setting.program)) (g.W.Write.contents l.fn.writer.inner) (g.W.Write.contents l.writer.inner)
      (flat_map (subjects_text InLine (moment_in l.fn.system l.fn.timekeeper) l.fn.ending.time
      (timed_turns l.fn.system.setting.program)) all_subjects) l.rest;
}

abbrev pub decreases-loop-rest : goal.decreases-loop-rest
decreases-loop-rest g l = length l.rest
