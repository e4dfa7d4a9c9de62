-- The turns made before the loop, before a turn, and by it.
use Rattle.lot_processors.proofs.Lemmas.{HasMade, IsWorkOf, arith, err_from_is_err_and, looked, made_then, refl, stopped, subst, sym, ◌+◌, ◌∙◌, ◌≡◌}
use Rattle.lot_processors.proofs.BatonWork.{none_made}
use Rattle.lot_processors.proofs.baton_workers.processor_turns.Goals as goal

pub loop-made-init : goal.loop-made-init
loop-made-init g c =
    let first = c.work-work.new.seat in
    let told = c.work-work.ensures in
    (refl, none_made first, told.seen.legal, subst (λ actor. IsWorkOf first.seen actor c.work-work.result) (sym told.same.actor) told.work)

pub returns-in_err-work-clause-err : goal.returns-in_err-work-clause-err
returns-in_err-work-clause-err g c =
    let program = c.args.program.now in
    let first = c.work-work.new.seat in
    let before = c.loop-made.seat in
    let after = c.turn_with.new.seat in
    let told = c.in_err-work.ensures in
    let p = err_from_is_err_and c.from_residual.result c.from_residual.ensures.1 in
    rw (p.1, p.2)
    (stopped program (0 + (c.loop-made.made + 0)) _ _ c.args.seat.now after
    (omega (arith, c.loop-made-test.true, c.turns-made-end.ensures.turns))
    (made_then 0 (c.loop-made.made + 0) c.args.seat.now first after
    (looked c.args.seat.now first c.work-work.ensures.same c.work-work.ensures.seen)
    (made_then c.loop-made.made 0 first before after c.loop-made.invariant.1 told.err.0)) told.err.1)

pub loop-made-preserved : goal.loop-made-preserved
loop-made-preserved g c =
    let i = c.loop-made.invariant in
    let told = c.in_ok-work.ensures in
    (c.turn_with.ensures.kept ∙ i.0, made_then c.loop-made.made 1 c.work-work.new.seat c.loop-made.seat c.turn_with.new.seat i.1 told.made, told.next.0, told.next.1)

pub returns-clause-ok : goal.returns-clause-ok
returns-clause-ok g c =
    let first = c.work-work.new.seat in
    let all : 0 + c.loop-made.made ≡ c.args.program.now.turns =
    omega (arith, c.loop-made-test.false, c.loop-made.auto.made-end, c.turns-made-end.ensures.turns) in
    subst (λ n. HasMade n c.args.seat.now c.loop-made.seat) all
    (made_then 0 c.loop-made.made c.args.seat.now first c.loop-made.seat
    (looked c.args.seat.now first c.work-work.ensures.same c.work-work.ensures.seen) c.loop-made.invariant.1)
