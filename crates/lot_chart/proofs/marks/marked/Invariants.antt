use Rattle.lot_chart.proofs.Common.{None, first_in, get_or, length, take, ℕ, ◌<◌, ◌≡◌}
use Rattle.lot_chart.proofs.marks.marked.Given as goal

-- each column has the first of the commands passed so far
abbrev pub invariant-loop-time : goal.invariant-loop-time
invariant-loop-time l = record {
  places : length l.marks.items ≡ 671;
  firsts : (k : ℕ) → k < length l.marks.items
      → get_or l.marks.items k None ≡ first_in l.curves (take l.time-index l.curves.commands) k;
}
