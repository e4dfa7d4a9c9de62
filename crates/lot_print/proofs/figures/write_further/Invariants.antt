use Rattle.lot_print.proofs.Common.{Appends, List, false, flat_map, ℕ, ◌++◌, ◌+◌, ◌-◌, ◌≡◌}
use Rattle.std.specs.List.{range_with_len}
use Rattle.lot_simulation.specs.Columns.{further_lines}
use Rattle.lot_print.specs.Figures.{further_line}
use Rattle.lot_print.proofs.figures.write_further.Given as goal

-- the lines written and those that are left are all
abbrev pub invariant-loop-place : goal.invariant-loop-place
invariant-loop-place g l = record {
  working : l.writer.failed ≡ false;
  bytes : (done : List ℕ) × (done ++ flat_map (further_line l.subject l.number l.figures)
      (range_with_len (l.place + 1) (further_lines l.subject - l.place))
      ≡ flat_map (further_line l.subject l.number l.figures) (range_with_len 1 (further_lines l.subject)))
      × Appends (g.W.Write.contents l.initial.writer.inner) (g.W.Write.contents l.writer.inner) done;
}
