use Rattle.lot_explain.proofs.Common.{Appends, false, lot_diagnostics, take, total_of, ◌≡◌}
use Rattle.lot_explain.proofs.lines.write_lots.Given as goal

-- the lines of the lots passed so far are written, and the next number is the first of the next lot
abbrev pub invariant-loop-lot : goal.invariant-loop-lot
invariant-loop-lot g l = record {
  working : l.writer.failed ≡ false;
  first : l.first ≡ total_of (take l.lot-index l.lots);
  bytes : Appends (g.W.Write.contents l.initial.writer.inner) (g.W.Write.contents l.writer.inner)
      (lot_diagnostics l.heading.style l.heading.unit l.heading.actor l.won 0 (take l.lot-index l.lots));
}
