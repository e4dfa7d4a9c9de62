-- The turns made before a turn, and by it.
use Rattle.lot_processors.proofs.Lemmas.{AtSome, IsWorkOf, arith, err_from_is_err_and, made-then, none_made, refl, subst, sym, ◌∙◌}
use Rattle.lot_processors.proofs.SeatWork.{stopped}
use Rattle.lot_processors.proofs.workers.processor_turns.Goals as goal

pub loop-made-init : goal.loop-made-init
loop-made-init g c = (refl, none_made c.args.station.now c.args.seat.now, c.work-work.ensures)

pub turn_with-requires : goal.turn_with-requires
turn_with-requires g c = c.loop-made.invariant.2

pub loop-made-preserved : goal.loop-made-preserved
loop-made-preserved g c =
    let setting = c.args.station.now in
    let i = c.loop-made.invariant in
    let told = c.in_ok-work.ensures in
    let actor = told.made.actor in (
      c.turn_with.ensures.kept ∙ i.0,
      made-then setting c.loop-made.made 1 c.args.seat.now c.loop-made.seat c.turn_with.new.seat i.1 told.made,
      subst (λ a. AtSome setting (λ x. IsWorkOf x a c.in_ok-work.work)) (sym actor) told.next,
    )

pub returns-in_err-work-clause-err : goal.returns-in_err-work-clause-err
returns-in_err-work-clause-err g c =
    let setting = c.args.station.now in
    let program = c.args.program.now in
    let before = c.loop-made.seat in
    let i = c.loop-made.invariant in
    let told = c.in_err-work.ensures in
    let p = err_from_is_err_and c.from_residual.result c.from_residual.ensures.1 in
    rw (p.1, p.2)
    (stopped setting program c.loop-made.made _ _ c.args.seat.now before c.turn_with.new.seat
    (omega (arith, c.loop-made-test.true, c.turns-made-end.ensures.turns)) i.1 told.err.0 told.err.1)
