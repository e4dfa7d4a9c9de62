use Rattle.lot_chart.proofs.Common.{flat_map, label, take, ◌++◌, ◌≡◌}
use Rattle.lot_chart.proofs.charts.push_labels.Given as goal

-- the names of the lines passed so far are put
abbrev pub invariant-loop-line : goal.invariant-loop-line
invariant-loop-line l = l.text ≡ l.initial.text ++ flat_map (label l.names l.total) (take l.line-index l.lines)
