use Rattle.lot_chart.proofs.Common.{AreDues, AreLinesOf, Dues, List, Standing, due_curve, flat_map, take, ◌++◌, ◌≡◌}
use Rattle.lot_chart.proofs.due_lines.push_lines.Given as goal

-- the thin lines of the lines passed so far are put
abbrev pub invariant-loop-place : goal.invariant-loop-place
invariant-loop-place l =
    (due : Dues) (shown : List Standing) → AreDues l.curves due shown l.dues → AreLinesOf shown l.lines
    → l.text ≡ l.initial.text ++ flat_map (due_curve l.curves due shown l.tops) (take l.place l.lines)
