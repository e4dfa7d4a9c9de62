use Rattle.lot_system.proofs.Common.{fold, life_change, no_lives, range_with_len, spans_in, timed_turns, with_lives, ◌*◌, ◌^◌, ◌≡◌, ◌≤◌}
use Rattle.lot_system.proofs.told.past_lives.Given as goal

-- the lives with the numbers passed so far are added up, each number's as many and as long as their types allow
abbrev pub invariant-loop-place : goal.invariant-loop-place
invariant-loop-place l = record {
  lives : l.lives ≡ fold (λ lives t. with_lives lives (spans_in life_change (timed_turns l.system.setting.program) t))
      no_lives (range_with_len 1 l.place);
  count : l.lives.count ≤ l.place * 2 ^ 32;
  total : l.lives.total ≤ l.place * 2 ^ 64;
}
