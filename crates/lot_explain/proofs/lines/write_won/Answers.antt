use Rattle.lot_explain.proofs.Common.{Begins, Err, ap, begins-front, loan_lines, lot_diagnostics, rules, subst, sym, writes-after, ◌≡◌}
use Rattle.lot_explain.proofs.lines.write_won.Goals as goal

pub returns-in_err-write_lots : goal.returns-in_err-write_lots
returns-in_err-write_lots g c =
    let is : c.from_residual.result ≡ Err c.in_err-write_lots.field-0.0 = search rules in
    let told = c.in_err-write_lots.ensures in
    let h = c.args.heading in
    let lots = lot_diagnostics h.style h.unit h.actor c.args.won 0 in
    let loans = loan_lines h.style h.unit h.actor c.args.lots.now.loans in
    let old = g.W.Write.contents c.args.writer.now.inner in
    let new = g.W.Write.contents c.write_lots.new.writer.inner in
    rw is (told.0, told.1, begins-front old new (lots c.args.lots.now.lots) loans (subst (λ xs. Begins old new (lots xs)) c.as_slice.ensures told.2))

pub returns : goal.returns
returns g c =
    let h = c.args.heading in
    let lots = lot_diagnostics h.style h.unit h.actor c.args.won 0 in
    let loans = loan_lines h.style h.unit h.actor in
    let old = g.W.Write.contents c.args.writer.now.inner in
    let mid = g.W.Write.contents c.write_lots.new.writer.inner in
    let new = g.W.Write.contents c.write_loans.new.writer.inner in
    let text = ap lots c.as_slice.ensures in
    rw (sym text, sym (ap loans c.loans.ensures))
    (writes-after old mid new c.write_loans.new.writer.failed c.write_loans.result (lots c.as_slice.result.now)
    (loans c.loans.result.now) c.in_ok-write_lots.ensures.1 c.write_loans.ensures)
