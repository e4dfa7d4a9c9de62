use Rattle.lot_chart.proofs.Common.{axis_step, flat_map, last_end, lead, map, range_with_len, time_mark, ◌*◌, ◌++◌, ◌+◌, ◌≡◌}
use Rattle.lot_chart.proofs.charts.push_time_marks.Given as goal

-- the marks passed so far are put
abbrev pub invariant-loop-mark : goal.invariant-loop-mark
invariant-loop-mark l =
    l.text ≡ l.initial.text ++ flat_map (time_mark l.curves) (map (λ n. lead (axis_step (last_end l.curves.stretches))
    l.curves.origin + n * axis_step (last_end l.curves.stretches)) (range_with_len 0 l.mark))
