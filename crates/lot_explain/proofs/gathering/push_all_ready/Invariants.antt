use Rattle.lot_explain.proofs.Common.{flat_map, lot_if_ready, range_with_len, vec_capacity, vec_len, world_of, ◌≡◌, ◌≤◌}
use Rattle.lot_explain.proofs.gathering.push_all_ready.Given as goal

-- the lots of the threads passed so far are there
abbrev pub invariant-loop-place : goal.invariant-loop-place
invariant-loop-place l = record {
  system : l.system ≡ l.initial.system;
  capacity : vec_capacity l.lots ≡ vec_capacity l.initial.lots;
  few : vec_len l.lots ≤ l.place;
  lots : l.lots.items ≡ flat_map (lot_if_ready (world_of l.initial.system).state) (range_with_len 1 l.place);
}
