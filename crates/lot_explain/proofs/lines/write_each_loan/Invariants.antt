use Rattle.lot_explain.proofs.Common.{Appends, false, flat_map, loan_line, take, ◌≡◌}
use Rattle.lot_explain.proofs.lines.write_each_loan.Given as goal

-- the lines of the loans passed so far are written
abbrev pub invariant-loop-loan : goal.invariant-loop-loan
invariant-loop-loan g l = record {
  working : l.writer.failed ≡ false;
  bytes : Appends (g.W.Write.contents l.initial.writer.inner) (g.W.Write.contents l.writer.inner)
      (flat_map (loan_line l.heading.style l.heading.unit l.heading.actor) (take l.loan-index l.loans));
}
