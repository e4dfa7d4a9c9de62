-- All is written before the outcome is known.
use Rattle.lot_system.proofs.Lemmas.{Err, ends-err, err-is, played_output, refl, ◌≡◌}
use Rattle.lot_system.proofs.lines.play_program.Goals as goal

pub returns-in_err-write_play-clause-played : goal.returns-in_err-write_play-clause-played
returns-in_err-write_play-clause-played g c =
    let program = c.args.program.now in
    let is : c.from_residual.result ≡ Err c.in_err-write_play.field-0.0 =
    err-is c.from_residual.result _ c.from_residual.ensures.1 in
    ends-err (g.W.Write.contents c.args.writer.now.inner) (g.W.Write.contents c.write_play.new.writer.inner)
    (played_output program program.duration) c.write_play.new.writer.failed c.from_residual.result _ is
    c.in_err-write_play.ensures.text

pub returns-clause-played : goal.returns-clause-played
returns-clause-played g c = (refl, c.in_ok-write_play.ensures.text.0, c.in_ok-write_play.ensures.text.1)
