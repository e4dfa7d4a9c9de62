use Rattle.lot_explain.proofs.Lemmas.{Err, begins-first, codes, decimal, front, funding_in, put-then, reply_text, rules, won_in, won_lines, world_of, ◌++◌, ◌≡◌}
use Rattle.lot_explain.proofs.explained.put_turn.Goals as goal

pub returns-in_err-put_funding-clause-text : goal.returns-in_err-put_funding-clause-text
returns-in_err-put_funding-clause-text g c =
    let is : c.from_residual.result ≡ Err c.in_err-put_funding.field-0.0 = search rules in
    let told = c.in_err-put_funding.ensures.text in
    let h = c.args.heading in
    let s = (world_of c.args.system.now).state in
    let won = won_in c.args.event.now c.args.reply in
    let funding = funding_in c.args.detail won h.style h.unit h.actor s in
    let lines = won_lines h.style h.unit h.actor c.args.lots.now.lots c.args.lots.now.loans won in
    let text =
    front h.style ++ (decimal h.actor ++ (codes " " ++ reply_text h.style s c.args.event.now c.args.reply)) in
    rw is (told.0, told.1, begins-first (g.W.Write.contents c.args.writer.now.inner) (g.W.Write.contents c.put_funding.new.writer.inner) c.args.page.now funding (lines ++ text) told.2)

pub returns-clause-text : goal.returns-clause-text
returns-clause-text g c =
    let h = c.args.heading in
    let s = (world_of c.args.system.now).state in
    let won = won_in c.args.event.now c.args.reply in
    let funding = funding_in c.args.detail won h.style h.unit h.actor s in
    let lines = won_lines h.style h.unit h.actor c.args.lots.now.lots c.args.lots.now.loans won in
    let text =
    front h.style ++ (decimal h.actor ++ (codes " " ++ reply_text h.style s c.args.event.now c.args.reply)) in
    let told = rw c.in_ok-put_funding.ensures.same at c.put_lots_and_answer.ensures.text in
    put-then (g.W.Write.contents c.args.writer.now.inner) (g.W.Write.contents c.put_funding.new.writer.inner)
    (g.W.Write.contents c.put_lots_and_answer.new.writer.inner) c.args.page.now c.put_funding.new.page
    c.put_lots_and_answer.new.page funding
    (lines ++ text) c.put_lots_and_answer.new.writer.failed c.put_lots_and_answer.result
    c.in_ok-put_funding.ensures.text.1 told
