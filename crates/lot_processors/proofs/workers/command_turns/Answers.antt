-- A made turn counts once, and after a failed one the seat has made fewer turns than all.
use Rattle.lot_processors.proofs.Lemmas.{Holder, ap, arith, err_from_is_err_and, length, none_made, refl, turned, ◌∙◌}
use Rattle.lot_processors.proofs.SeatWork.{refused_console, stopped}
use Rattle.lot_processors.proofs.workers.command_turns.Goals as goal

pub loop-turn-init : goal.loop-turn-init
loop-turn-init g c = (refl, none_made c.args.station.now c.args.seat.now)

pub loop-turn-preserved : goal.loop-turn-preserved
loop-turn-preserved g c =
    let told = c.in_ok-turn.ensures in
    let made = c.loop-turn.invariant.1 in
    (ap (λ (h : Holder). h.stopped) told.ok ∙ c.loop-turn.invariant.0, turned c.args.station.now c.loop-turn._turn c.args.seat.now c.loop-turn.seat c.turn.new.seat _ c.in_ok-turn.field-0 made told.ok told.answer)

pub returns-in_err-turn-clause-err : goal.returns-in_err-turn-clause-err
returns-in_err-turn-clause-err g c =
    let setting = c.args.station.now in
    let program = c.args.program.now in
    let before = c.loop-turn.seat in
    let made = c.loop-turn.invariant.1 in
    let told = c.in_err-turn.ensures in
    let p = err_from_is_err_and c.from_residual.result c.from_residual.ensures.1 in
    rw (p.1, p.2)
    (stopped setting program c.loop-turn._turn _ _ c.args.seat.now before c.turn.new.seat
    (omega (arith, c.loop-turn-test.true, ap length c.commands.ensures.commands)) made told.err
    (refused_console setting program before.actor _ (made.actor ∙ c.requires) told.fault))
