use Rattle.lot_chart.proofs.Common.{curve, flat_map, take, ◌++◌, ◌≡◌}
use Rattle.lot_chart.proofs.charts.push_curves.Given as goal

-- the lines passed so far are put
abbrev pub invariant-loop-line : goal.invariant-loop-line
invariant-loop-line l = l.text ≡ l.initial.text ++ flat_map (curve l.curves l.others l.tops) (take l.line-index l.lines)
