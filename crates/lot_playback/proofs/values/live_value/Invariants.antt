use Rattle.lot_playback.proofs.Common.{filter, is_live, live_of, range_with_len, sum_by, value_of, world_of, ◌*◌, ◌^◌, ◌≡◌, ◌≤◌}
use Rattle.lot_playback.proofs.values.live_value.Given as goal

-- the live threads passed so far are added up, and each is worth less than 2 ^ 64
abbrev pub invariant-loop-place : goal.invariant-loop-place
invariant-loop-place l = record {
  system : l.system ≡ l.initial.system;
  value : l.sum ≡ sum_by (value_of (world_of l.initial.system).state)
      (filter (is_live (live_of (world_of l.initial.system).state)) (range_with_len 1 l.place));
  small : l.sum ≤ l.place * 2 ^ 64;
}
