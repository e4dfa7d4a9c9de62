use Rattle.std.proofs.Common.{◌≡◌, ◌≤◌, replicate, vec_capacity}
use Rattle.lot_kept.proofs.kept.Kept.filled.Given as goal

abbrev pub invariant-loop : goal.invariant-loop
invariant-loop g l = record {
  items : l.places.items ≡ replicate l.counter l.value;
  room : vec_capacity l.places ≡ l.count;
  within : l.counter ≤ l.count;
}
