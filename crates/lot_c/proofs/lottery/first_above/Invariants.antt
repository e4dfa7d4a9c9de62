-- The running sum is that of the weights passed, and at most the number; the index sought is not among those passed.
use Rattle.lot_c.proofs.Common.{first_above, map, running_sums, sum, wide_meant, ◌+◌, ◌≡◌, ◌≤◌}
use Rattle.std.proofs.Common.{drop}
use Rattle.lot_c.proofs.lottery.first_above.Given as goal

abbrev pub invariant-loop-place : goal.invariant-loop-place
invariant-loop-place l = record {
  below : l.running ≤ l.number;
  passed : l.running + sum (map wide_meant (drop l.place l.weights)) ≡ sum (map wide_meant l.weights);
  sought : l.place + first_above l.number (running_sums l.running (map wide_meant (drop l.place l.weights)))
      ≡ first_above l.number (running_sums 0 (map wide_meant l.weights));
}
