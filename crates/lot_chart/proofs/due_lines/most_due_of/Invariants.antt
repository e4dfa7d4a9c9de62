use Rattle.lot_chart.proofs.Common.{AreDues, Dues, due_ticks, fold, max, take, ◌≡◌}
use Rattle.lot_chart.proofs.due_lines.most_due_of.Given as goal

-- the most that is due to the lines passed so far
abbrev pub invariant-loop-place : goal.invariant-loop-place
invariant-loop-place l =
    (due : Dues) → AreDues l.curves due l.shown l.dues
    → l.most ≡ fold (λ most s. max (due_ticks l.curves due l.shown s.thread) most) 0 (take l.place l.shown)
