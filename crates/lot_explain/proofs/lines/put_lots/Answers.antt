use Rattle.lot_explain.proofs.Common.{Err, Some, begins-front, put-written, rules, sym, won_in, won_lines, ◌∙◌, ◌≡◌}
use Rattle.lot_explain.proofs.lines.put_lots.Goals as goal

pub returns-in_err-write_out-in-Some : goal.returns-in_err-write_out-in-Some
returns-in_err-write_out-in-Some g c =
    let is : c.from_residual.result ≡ Err c.in_err-write_out-in-Some.field-0.0 = search rules in
    let told = c.in_err-write_out-in-Some.ensures.text in
    let h = c.args.heading in
    let text = won_lines h.style h.unit h.actor c.args.lots.now.lots c.args.lots.now.loans
    (won_in c.args.event.now c.args.reply) in
    rw is (told.0, told.1, begins-front (g.W.Write.contents c.args.writer.now.inner) (g.W.Write.contents c.write_out.new.writer.inner) c.args.page.now text told.2)

pub returns-in_ok-write_out-in-Some : goal.returns-in_ok-write_out-in-Some
returns-in_ok-write_out-in-Some g c =
    let told = c.in_ok-write_out-in-Some.ensures in
    let old = g.W.Write.contents c.args.writer.now.inner in
    let mid = g.W.Write.contents c.write_out.new.writer.inner in
    let new = g.W.Write.contents c.write_won.new.writer.inner in
    let h = c.args.heading in
    let won : won_in c.args.event.now c.args.reply ≡ Some c.in-Some.won = sym c.won_in.ensures ∙ c.in-Some.is in
    rw won (put-written old mid new c.args.page.now c.write_out.new.self
    (won_lines h.style h.unit h.actor c.args.lots.now.lots c.args.lots.now.loans (Some c.in-Some.won))
    c.write_won.new.writer.failed c.write_won.result told.none told.text.1 c.write_won.ensures)
