use Rattle.lot_explain.proofs.Lemmas.{Err, loan_line, rules, texts-more, texts-stop, ◌≡◌}
use Rattle.lot_explain.proofs.lines.write_each_loan.Goals as goal

pub returns-in_err-write_loan : goal.returns-in_err-write_loan
returns-in_err-write_loan g c =
    let is : c.from_residual.result ≡ Err c.in_err-write_loan.field-0.0 = search rules in
    let told = c.in_err-write_loan.ensures in
    let h = c.args.heading in
    let x = c.loan-item.result in
    rw is (
      told.0,
      told.1,
      texts-stop (loan_line h.style h.unit h.actor) c.args.loans.now c.loop-loan.loan-index x x
          (search rules) c.loan-item.is (g.W.Write.contents c.args.writer.now.inner)
          (g.W.Write.contents c.loop-loan.writer.inner) (g.W.Write.contents c.write_loan.new.writer.inner)
          c.loop-loan.invariant.bytes told.2,
    )

pub loop-loan-preserved : goal.loop-loan-preserved
loop-loan-preserved g c =
    let told = c.in_ok-write_loan.ensures in
    let h = c.args.heading in
    let x = c.loan-item.result in
    record {
      working = told.0;
      bytes = texts-more (loan_line h.style h.unit h.actor) c.args.loans.now c.loop-loan.loan-index x x
          (search rules) c.loan-item.is (g.W.Write.contents c.args.writer.now.inner)
          (g.W.Write.contents c.loop-loan.writer.inner) (g.W.Write.contents c.write_loan.new.writer.inner)
          c.loop-loan.invariant.bytes told.1;
    }
