use Rattle.std.proofs.Common.{◌≡◌, ◌≤◌, take}
use Rattle.lot_chart.specs.Charts as definitions
use Rattle.lot_chart.proofs.charts.longest_name.Given as goal

-- the longest name of the lines passed so far
abbrev pub invariant-loop-line : goal.invariant-loop-line
invariant-loop-line l = record {
  longest : l.longest ≡ definitions.longest_name l.names (take l.line-index l.lines);
  short : l.longest ≤ 16;
}
