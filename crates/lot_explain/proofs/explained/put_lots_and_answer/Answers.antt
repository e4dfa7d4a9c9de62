use Rattle.lot_explain.proofs.Lemmas.{Err, begins-first, codes, decimal, front, put-then, reply_text, rules, won_in, won_lines, world_of, ◌++◌, ◌≡◌}
use Rattle.lot_explain.proofs.explained.put_lots_and_answer.Goals as goal

pub returns-in_err-put_lots-clause-text : goal.returns-in_err-put_lots-clause-text
returns-in_err-put_lots-clause-text g c =
    let is : c.from_residual.result ≡ Err c.in_err-put_lots.field-0.0 = search rules in
    let told = c.in_err-put_lots.ensures in
    let h = c.args.heading in
    let lines = won_lines h.style h.unit h.actor c.args.lots.now.lots c.args.lots.now.loans
    (won_in c.args.event.now c.args.reply) in
    let text = front h.style ++ (decimal h.actor
    ++ (codes " " ++ reply_text h.style (world_of c.args.system.now).state c.args.event.now c.args.reply)) in
    rw is (told.0, told.1, begins-first (g.W.Write.contents c.args.writer.now.inner) (g.W.Write.contents c.put_lots.new.writer.inner) c.args.page.now lines text told.2)

pub returns-clause-text : goal.returns-clause-text
returns-clause-text g c =
    let h = c.args.heading in
    let lines = won_lines h.style h.unit h.actor c.args.lots.now.lots c.args.lots.now.loans
    (won_in c.args.event.now c.args.reply) in
    let text = front h.style ++ (decimal h.actor
    ++ (codes " " ++ reply_text h.style (world_of c.args.system.now).state c.args.event.now c.args.reply)) in
    put-then (g.W.Write.contents c.args.writer.now.inner) (g.W.Write.contents c.put_lots.new.writer.inner)
    (g.W.Write.contents c.put_answer.new.writer.inner) c.args.page.now c.put_lots.new.page c.put_answer.new.page lines
    text c.put_answer.new.writer.failed c.put_answer.result c.in_ok-put_lots.ensures.1 c.put_answer.ensures.text
