use Rattle.lot_chart.proofs.Common.{axis_step, flat_map, height_mark, map, range_with_len, ◌*◌, ◌++◌, ◌≡◌}
use Rattle.lot_chart.proofs.charts.push_height_marks.Given as goal

-- the marks passed so far are put
abbrev pub invariant-loop-mark : goal.invariant-loop-mark
invariant-loop-mark l =
    l.text ≡ l.initial.text ++ flat_map (height_mark l.most) (map (λ n. n * axis_step l.most) (range_with_len 0 l.mark))
