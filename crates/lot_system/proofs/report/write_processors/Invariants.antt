use Rattle.lot_system.proofs.Common.{Appends, false, flat_map, processor_total, range_with_len, turns_made, ◌≡◌}
use Rattle.lot_system.proofs.report.write_processors.Given as goal

-- the lines of the processors passed so far are written
abbrev pub invariant-loop-place : goal.invariant-loop-place
invariant-loop-place g l = record {
  working : l.writer.failed ≡ false;
  bytes : Appends (g.W.Write.contents l.initial.writer.inner) (g.W.Write.contents l.writer.inner)
      (flat_map (processor_total (turns_made l.system.setting.program l.system.history)) (range_with_len 1 l.place));
}
