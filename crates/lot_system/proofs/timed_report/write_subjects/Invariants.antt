use Rattle.lot_system.proofs.Common.{Appends, false, flat_map, moment_in, range_with_len, subject_text, timed_turns, ◌≡◌}
use Rattle.lot_system.proofs.timed_report.write_subjects.Given as goal

-- the lines or rows of the subjects passed so far are written
abbrev pub invariant-loop-place : goal.invariant-loop-place
invariant-loop-place g l = record {
  working : l.writer.failed ≡ false;
  system : l.system ≡ l.fn.system;
  bytes : Appends (g.W.Write.contents l.fn.writer.inner) (g.W.Write.contents l.writer.inner)
      (flat_map (subject_text l.fn.layout (moment_in l.fn.system l.fn.timekeeper) l.fn.ending.time
      (timed_turns l.fn.system.setting.program) l.fn.subject) (range_with_len 1 l.place));
}
