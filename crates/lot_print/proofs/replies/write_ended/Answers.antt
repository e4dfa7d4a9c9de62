use Rattle.lot_print.proofs.Lemmas.{Err, codes, decimal, front, newline, put-stop, refused, rules, ◌++◌, ◌≡◌}
use Rattle.lot_print.proofs.replies.write_ended.Goals as goal

pub returns-in_err-make_room : goal.returns-in_err-make_room
returns-in_err-make_room g c =
    let is : c.from_residual.result ≡ Err c.in_err-make_room.field-0.0 = search rules in
    let told = c.in_err-make_room.ensures.text in
    rw is (
      told.0,
      told.1,
      put-stop (g.W.Write.contents c.args.writer.now.inner)
          (g.W.Write.contents c.make_room.new.writer.inner) c.args.page.now (front c.args.heading.style
          ++ (decimal c.args.heading.actor ++ (codes " " ++ (refused 41 (codes "Ended") ++ newline)))) told.2,
    )
