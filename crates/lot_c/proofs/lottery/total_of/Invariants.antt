use Rattle.lot_c.proofs.Common.{map, sum, wide_meant, ◌+◌, ◌≡◌}
use Rattle.std.proofs.Common.{drop}
use Rattle.lot_c.proofs.lottery.total_of.Given as goal

-- the total so far and the weights that are left come to the sum
abbrev pub invariant-loop-weight : goal.invariant-loop-weight
invariant-loop-weight l = record {
  whole : l.total + sum (map wide_meant (drop l.weight-index l.weights)) ≡ sum (map wide_meant l.weights);
}
