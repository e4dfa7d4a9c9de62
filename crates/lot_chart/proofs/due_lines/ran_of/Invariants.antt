use Rattle.lot_chart.proofs.Common.{Ticks, last_end, map, range_with_len, sample_tick, total_at, ◌≡◌}
use Rattle.lot_chart.proofs.due_lines.ran_of.Given as goal

-- the ticks of the samples passed so far
abbrev pub invariant-loop-sample : goal.invariant-loop-sample
invariant-loop-sample l = l.ran.items
    ≡ map (total_at Ticks l.curves) (map (sample_tick (last_end l.curves.stretches)) (range_with_len 0 l.sample))
