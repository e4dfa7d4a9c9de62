use Rattle.lot_chart.proofs.Common.{drop, lines_after, ◌*◌, ◌++◌, ◌+◌, ◌≡◌, ◌≤◌}
use Rattle.lot_chart.specs.Lines as definitions
use Rattle.lot_chart.proofs.lines.lines_of.Given as goal

-- the lines of the rest are still to come
abbrev pub invariant-loop-style : goal.invariant-loop-style
invariant-loop-style l = record {
  lines : l.lines.items ++ lines_after l.most l.style l.least (drop l.style l.shown)
      ≡ definitions.lines_of l.most l.shown;
  low : l.least ≤ 4600 + 160 * l.style;
}
