use Rattle.lot_chart.proofs.Common.{flat_map, range_with_len, sample_point, ◌++◌, ◌≡◌}
use Rattle.lot_chart.proofs.charts.push_points.Given as goal

-- the points of the samples passed so far are put
abbrev pub invariant-loop-sample : goal.invariant-loop-sample
invariant-loop-sample l =
    l.text ≡ l.initial.text ++ flat_map (sample_point l.curves l.tops l.stretches) (range_with_len 0 l.sample)
