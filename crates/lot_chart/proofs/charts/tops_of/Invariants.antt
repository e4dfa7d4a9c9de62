use Rattle.lot_chart.proofs.Common.{last_end, map, range_with_len, sample_tick, top_at, ◌≡◌}
use Rattle.lot_chart.proofs.charts.tops_of.Given as goal

-- the tops of the samples passed so far
abbrev pub invariant-loop-sample : goal.invariant-loop-sample
invariant-loop-sample l = l.tops.items
    ≡ map (top_at l.curves l.most) (map (sample_tick (last_end l.curves.stretches)) (range_with_len 0 l.sample))
