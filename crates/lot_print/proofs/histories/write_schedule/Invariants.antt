use Rattle.lot_print.proofs.Common.{Appends, List, false, length, schedule_lines, ℕ, ◌++◌, ◌≡◌}
use Rattle.lot_print.proofs.histories.write_schedule.Given as goal

-- what was written so far, and the lines of the rest, are the lines of the whole
abbrev pub invariant-loop-rest : goal.invariant-loop-rest
invariant-loop-rest g l = record {
  working : l.writer.failed ≡ false;
  bytes : (done : List ℕ) × (done ++ schedule_lines l.rest ≡ schedule_lines l.history)
      × Appends (g.W.Write.contents l.initial.writer.inner) (g.W.Write.contents l.writer.inner) done;
}

abbrev pub decreases-loop-rest : goal.decreases-loop-rest
decreases-loop-rest g l = length l.rest
