use Rattle.lot_chart.proofs.Common.{map, range_with_len, start_tick, ◌≡◌}
use Rattle.lot_chart.proofs.gauges.starts_of.Given as goal

-- the ticks of the samples passed so far
abbrev pub invariant-loop-sample : goal.invariant-loop-sample
invariant-loop-sample l = l.starts.items ≡ map (start_tick l.curves) (range_with_len 0 l.sample)
