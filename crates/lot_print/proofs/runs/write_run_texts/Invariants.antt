use Rattle.lot_print.proofs.Common.{Appends, List, false, flat_map, run_text, runs_in, take, ℕ, ◌++◌, ◌-◌, ◌≡◌}
use Rattle.lot_print.proofs.runs.write_run_texts.Given as goal

-- what was written so far, and the runs of the rest that the line has room for, are those of the whole
abbrev pub invariant-loop-pair : goal.invariant-loop-pair
invariant-loop-pair g l = record {
  working : l.writer.failed ≡ false;
  bytes : (done : List ℕ) × (done ++ flat_map run_text (take (32 - l._pair) (runs_in l.rest))
      ≡ flat_map run_text (take 32 (runs_in l.history)))
      × Appends (g.W.Write.contents l.initial.writer.inner) (g.W.Write.contents l.writer.inner) done;
}
