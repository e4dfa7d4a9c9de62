-- After a failed turn the seat has made fewer turns than all.
use Rattle.lot_processors.proofs.Lemmas.{ap, arith, err_from_is_err_and, length, looked, made_then, refused_console, stopped, ◌+◌, ◌∙◌}
use Rattle.lot_processors.proofs.baton_workers.command_turns.Goals as goal

pub returns-in_err-turn-clause-err : goal.returns-in_err-turn-clause-err
returns-in_err-turn-clause-err g c =
    let program = c.args.program.now in
    let before = c.loop-turn.seat in
    let after = c.turn.new.seat in
    let told = c.in_err-turn.ensures in
    let made = c.loop-turn.invariant.1 in
    let p = err_from_is_err_and c.from_residual.result c.from_residual.ensures.1 in
    rw (p.1, p.2)
    (stopped program (c.loop-turn._turn + 0) _ _ c.args.seat.now after
    (omega (arith, c.loop-turn-test.true, ap length c.commands.ensures.commands))
    (made_then c.loop-turn._turn 0 c.args.seat.now before after made (looked before after told.same told.err.0))
    (refused_console program before after _
    (made.continues.actor ∙ c.requires.console) told.same told.err.0 told.err.1))
