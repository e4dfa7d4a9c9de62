use Rattle.lot_tree.proofs.Common.{AreKept, ◌≡◌}
use Rattle.lot_tree.proofs.partial_sums.PartialSums.follow.Given as goal

abbrev pub invariant-loop-level : goal.invariant-loop-level
invariant-loop-level l = record {
  kept : AreKept l.weights (record { sums = l.self-inside.sums.items; height = l.self-inside.height });
  height : l.self-inside.height ≡ l.level;
}
