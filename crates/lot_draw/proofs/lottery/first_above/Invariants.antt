-- The running sum is that of the weights passed, and at most the number; the index sought is not among those passed.
use Rattle.lot_draw.proofs.Common.{drop, first_above, running_sums, sum, ◌+◌, ◌≡◌, ◌≤◌}
use Rattle.lot_draw.proofs.lottery.first_above.Given as goal

abbrev pub invariant-loop-place : goal.invariant-loop-place
invariant-loop-place l = record {
  below : l.running ≤ l.number;
  passed : l.running + sum (drop l.place l.weights) ≡ sum l.weights;
  sought : l.place + first_above l.number (running_sums l.running (drop l.place l.weights))
      ≡ first_above l.number (running_sums 0 l.weights);
}
