use Rattle.lot_print.proofs.Common.{drop, length, runs_in, ◌<◌, ◌≡◌, ◌≤◌}
use Rattle.lot_print.proofs.runs.after_line.Given as goal

abbrev pub invariant-loop-pair : goal.invariant-loop-pair
invariant-loop-pair l = record {
  runs : runs_in l.rest ≡ drop l._pair (runs_in l.history);
  most : length l.rest ≤ length l.history;
  shorter : 0 < l._pair → 0 < length l.history → length l.rest < length l.history;
}
