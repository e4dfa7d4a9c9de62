use Rattle.lot_print.proofs.Common.{flat_map, length, map, ◌*◌, ◌++◌, ◌+◌, ◌≡◌, ◌≤◌}
use Rattle.lot_simulation.specs.Columns.{names_text, row_of}
use Rattle.lot_print.specs.Room.{AreShort, cell_room}
use Rattle.lot_print.proofs.cells.push_names.Given as goal

-- the row with the names that are left is the whole, and has room for them
abbrev pub invariant-loop-others : goal.invariant-loop-others
invariant-loop-others g l = record {
  short : AreShort (map row_of l.others);
  text : l.row ++ flat_map (names_text l.several) (map row_of l.others) ≡ l.fn.row
      ++ flat_map (names_text l.several) (map row_of l.columns);
  len : length l.row + 3 * cell_room * length l.others ≤ length l.fn.row + 3 * cell_room * length l.columns;
}

abbrev pub decreases-loop-others : goal.decreases-loop-others
decreases-loop-others g l = length l.others
