use Rattle.lot_print.proofs.Common.{length, map, ◌*◌, ◌++◌, ◌+◌, ◌≡◌, ◌≤◌}
use Rattle.lot_simulation.specs.Columns.{row_of}
use Rattle.lot_print.specs.Figures.{spreads_text}
use Rattle.lot_print.specs.Room.{AreShort, cell_room}
use Rattle.lot_print.proofs.figures.push_spreads.Given as goal

-- the text with the figures that are left is the whole, and has room for them
abbrev pub invariant-loop-others : goal.invariant-loop-others
invariant-loop-others g l = record {
  short : AreShort (map row_of l.others);
  text : l.text ++ spreads_text l.line l.plays (map row_of l.others) l.rest ≡ l.fn.text
      ++ spreads_text l.line l.plays (map row_of l.columns) l.spreads;
  len : length l.text + 3 * cell_room * length l.others ≤ length l.fn.text + 3 * cell_room * length l.columns;
}

abbrev pub decreases-loop-others : goal.decreases-loop-others
decreases-loop-others g l = length l.others
