-- The report is written after the explanation of the turns.
use Rattle.lot_explain.proofs.Lemmas.{Err, ends-well, err-is, explained_turns, fails-first, fails-last, last_report, program-texts, program_turns, ◌≡◌}
use Rattle.lot_explain.proofs.explaining.explain_program.Goals as goal

pub returns-in_err-explain_turns-clause-played : goal.returns-in_err-explain_turns-clause-played
returns-in_err-explain_turns-clause-played g c =
    let program = c.args.program.now in
    let is : c.from_residual.result ≡ Err c.in_err-explain_turns.field-0.0 =
    err-is c.from_residual.result _ c.from_residual.ensures.1 in
    fails-first (g.W.Write.contents c.args.writer.now.inner) (g.W.Write.contents c.explain_turns.new.writer.inner)
    (explained_turns c.args.detail (program_turns program)) (last_report program program.duration) _
    (program-texts c.args.detail program program.duration) c.explain_turns.new.writer.failed
    c.from_residual.result _ is c.in_err-explain_turns.ensures.text

pub returns-in_err-end_play-clause-played : goal.returns-in_err-end_play-clause-played
returns-in_err-end_play-clause-played g c =
    let program = c.args.program.now in
    let is : c.from_residual-in_err-end_play.result ≡ Err c.in_err-end_play.field-0.0 =
    err-is c.from_residual-in_err-end_play.result _ c.from_residual-in_err-end_play.ensures.1 in
    fails-last (g.W.Write.contents c.args.writer.now.inner) (g.W.Write.contents c.end_play.new.writer.inner)
    (explained_turns c.args.detail (program_turns program)) (last_report program program.duration) _
    (program-texts c.args.detail program program.duration) c.end_play.new.writer.failed
    (g.W.Write.contents c.explain_turns.new.writer.inner) c.in_ok-explain_turns.ensures.text.1
    c.from_residual-in_err-end_play.result _ is c.in_err-end_play.ensures.text

pub returns-clause-played : goal.returns-clause-played
returns-clause-played g c =
    let program = c.args.program.now in
    ends-well (g.W.Write.contents c.args.writer.now.inner) (g.W.Write.contents c.end_play.new.writer.inner)
    (explained_turns c.args.detail (program_turns program)) (last_report program program.duration) _
    (program-texts c.args.detail program program.duration) c.end_play.new.writer.failed
    (g.W.Write.contents c.explain_turns.new.writer.inner) c.in_ok-explain_turns.ensures.text.1
    c.in_ok-end_play.ensures.text
