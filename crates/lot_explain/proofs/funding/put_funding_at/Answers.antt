use Rattle.lot_explain.proofs.Lemmas.{Err, begins-front, funding-timed, funding_at, funding_lines, put-written, rules, ◌≡◌}
use Rattle.lot_explain.proofs.funding.put_funding_at.Goals as goal

pub returns-in_err-write_out-in-Timed : goal.returns-in_err-write_out-in-Timed
returns-in_err-write_out-in-Timed g c =
    let is : c.from_residual.result ≡ Err c.in_err-write_out-in-Timed.field-0.0 = search rules in
    let told = c.in_err-write_out-in-Timed.ensures.text in
    let h = c.args.heading in
    let text = funding_at c.args.lottery h.style h.unit h.actor c.args.settled.kernel.now.state in
    rw is (told.0, told.1, begins-front (g.W.Write.contents c.args.writer.now.inner) (g.W.Write.contents c.write_out.new.writer.inner) c.args.page.now text told.2)

pub returns-in_ok-write_out-in-Timed : goal.returns-in_ok-write_out-in-Timed
returns-in_ok-write_out-in-Timed g c =
    let told = c.in_ok-write_out-in-Timed.ensures in
    let old = g.W.Write.contents c.args.writer.now.inner in
    let mid = g.W.Write.contents c.write_out.new.writer.inner in
    let new = g.W.Write.contents c.write_funding.new.writer.inner in
    let h = c.args.heading in
    let s = c.args.settled.kernel.now.state in
    let text = funding-timed c.args.lottery h.style _ h.unit h.actor s c.in-OfProcessor.is c.in-Timed.is in
    rw text (put-written old mid new c.args.page.now c.write_out.new.self (funding_lines h.style h.unit h.actor s)
    c.write_funding.new.writer.failed c.write_funding.result told.none told.text.1 c.write_funding.ensures)
