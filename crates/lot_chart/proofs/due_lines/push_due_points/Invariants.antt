use Rattle.lot_chart.proofs.Common.{AreDues, Dues, IsLineOf, List, Standing, due_point, flat_map, range_with_len, ◌++◌, ◌≡◌}
use Rattle.lot_chart.proofs.due_lines.push_due_points.Given as goal

-- the points of the samples passed so far are put
abbrev pub invariant-loop-sample : goal.invariant-loop-sample
invariant-loop-sample l =
    (due : Dues) (shown : List Standing) → AreDues l.curves due shown l.dues → IsLineOf shown l.place l.thread
    → l.text ≡ l.initial.text ++ flat_map (due_point l.curves due shown l.tops l.thread) (range_with_len 0 l.sample)
