use Rattle.lot_print.proofs.Lemmas.{Err, codes, decimal, front, plain_text, put-stop, rules, ◌++◌, ◌≡◌}
use Rattle.lot_print.proofs.replies.write_reply.Goals as goal

pub returns-in_err-make_room : goal.returns-in_err-make_room
returns-in_err-make_room g c =
    let is : c.from_residual.result ≡ Err c.in_err-make_room.field-0.0 = search rules in
    let told = c.in_err-make_room.ensures.text in
    rw is (
      told.0,
      told.1,
      put-stop (g.W.Write.contents c.args.writer.now.inner) (g.W.Write.contents c.make_room.new.writer.inner)
          c.args.page.now (front c.args.heading.style ++ (decimal c.args.heading.actor ++ (codes " "
          ++ plain_text c.args.heading.style c.args.heading.unit c.args.event.now c.args.reply.now))) told.2,
    )
