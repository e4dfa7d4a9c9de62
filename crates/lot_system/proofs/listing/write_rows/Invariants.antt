use Rattle.lot_system.proofs.Common.{Appends, false, first_number, flat_map, range_with_len, row_line, ◌≡◌}
use Rattle.lot_system.proofs.listing.write_rows.Given as goal

-- the lines of the numbers passed so far are written
abbrev pub invariant-loop-place : goal.invariant-loop-place
invariant-loop-place g l = record {
  working : l.writer.failed ≡ false;
  bytes : Appends (g.W.Write.contents l.initial.writer.inner) (g.W.Write.contents l.writer.inner)
      (flat_map (row_line l.style l.settled.kernel.now.state l.kind) (range_with_len (first_number l.kind) l.place));
}
