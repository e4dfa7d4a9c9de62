use Rattle.lot_chart.proofs.Common.{column_mark, flat_map, take, ◌++◌, ◌≡◌}
use Rattle.lot_chart.proofs.charts.push_command_marks.Given as goal

-- the marks of the columns passed so far are put
abbrev pub invariant-loop-mark : goal.invariant-loop-mark
invariant-loop-mark l = l.text ≡ l.initial.text ++ flat_map (column_mark l.curves) (take l.mark-index l.mark-items)
