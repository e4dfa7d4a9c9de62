use Rattle.lot_chart.proofs.Common.{HasThoseAbove, State, filter, in_column, last_end, length, map, max, range_with_len, stands_below, ℕ, ◌++◌, ◌-◌, ◌<◌, ◌^◌, ◌≡◌, ◌≤◌}
use Rattle.lot_chart.proofs.gathering.push_found.Given as goal

-- the stretches of the currencies passed so far are there
abbrev pub invariant-loop-currency : goal.invariant-loop-currency
invariant-loop-currency l = record {
  low : 1 ≤ l.currency;
  within : l.currency - 1 ≤ l.count - 1;
  columns : (s : State) (t : ℕ) → l.count ≡ length s.currencies → HasThoseAbove s t l.above
      → l.stretches.items ≡ l.initial.stretches.items
      ++ map (λ c. in_column c l.stretch) (filter (λ c. stands_below s c t) (range_with_len 1 (l.currency - 1)));
  few : length l.stretches.items < 2 ^ 32;
  early : last_end l.stretches.items ≤ max l.stretch.end (last_end l.initial.stretches.items);
}
