use Rattle.lot_print.proofs.Common.{length, map, ◌≡◌}
use Rattle.lot_simulation.specs.Columns.{row_of}
use Rattle.lot_print.specs.Figures.{tells_all}
use Rattle.lot_print.proofs.figures.tells_all.Given as goal

-- the columns that are left decide
abbrev pub invariant-loop-others : goal.invariant-loop-others
invariant-loop-others l =
    tells_all l.line (map row_of l.others) l.rest ≡ tells_all l.line (map row_of l.columns) l.spreads

abbrev pub decreases-loop-others : goal.decreases-loop-others
decreases-loop-others l = length l.others
