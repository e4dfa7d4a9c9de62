use Rattle.std.proofs.Common.{◌≡◌, ◌≤◌, vec_capacity}
use Rattle.std.specs.List.{range_with_len}
use Rattle.lot_kept.proofs.kept.Kept+u32.counted.Given as goal

abbrev pub invariant-loop-number : goal.invariant-loop-number
invariant-loop-number l = record {
  items : l.places.items ≡ range_with_len 0 l.number;
  room : vec_capacity l.places ≡ l.count;
  within : l.number ≤ l.count;
}
