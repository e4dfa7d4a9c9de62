use Rattle.lot_print.proofs.Common.{length, map, ◌*◌, ◌++◌, ◌+◌, ◌≡◌, ◌≤◌}
use Rattle.lot_simulation.specs.Columns.{cells_text, row_of}
use Rattle.lot_print.specs.Room.{AreShort, cell_room}
use Rattle.lot_print.proofs.cells.push_cells.Given as goal

-- the line with the cells that are left is the whole, and has room for them
abbrev pub invariant-loop-others : goal.invariant-loop-others
invariant-loop-others g l = record {
  short : AreShort (map row_of l.others);
  text : l.line ++ cells_text l.layout (map row_of l.others) l.rest ≡ l.fn.line
      ++ cells_text l.layout (map row_of l.columns) l.cells;
  len : length l.line + cell_room * length l.others ≤ length l.fn.line + cell_room * length l.columns;
}

abbrev pub decreases-loop-others : goal.decreases-loop-others
decreases-loop-others g l = length l.others
