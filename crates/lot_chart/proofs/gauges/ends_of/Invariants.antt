use Rattle.lot_chart.proofs.Common.{end_tick, map, range_with_len, ◌≡◌}
use Rattle.lot_chart.proofs.gauges.ends_of.Given as goal

-- the ticks of the samples passed so far
abbrev pub invariant-loop-sample : goal.invariant-loop-sample
invariant-loop-sample l = l.ends.items ≡ map (end_tick l.curves) (range_with_len 0 l.sample)
