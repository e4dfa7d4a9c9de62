-- A made turn counts once. A refused one counts as none, and the work that it carries is tried, or was the last.
use Rattle.lot_processors.proofs.Lemmas.{IsLastWork, IsWorkOf, Matches, Option, Work, err_from_is_err_and, later-had, looked, made_then, refused, subst, sym, unfit, ◌∙◌}
use Rattle.lot_processors.proofs.BatonWork.{turned}
use Rattle.lot_processors.proofs.baton_workers.turn_with.Goals as goal

pub returns-in_err-slice-clause-err : goal.returns-in_err-slice-clause-err
returns-in_err-slice-clause-err g c =
    let i = c.loop.invariant in
    let seat = c.loop.seat in
    let had = subst (λ (work : Option Work). IsWorkOf seat.seen seat.actor work) (sym c.copy_of.ensures) i.4 in
    let p = err_from_is_err_and c.from_residual.result c.from_residual.ensures.1 in
    rw (p.1, p.2) (i.1, unfit c.args.program.now seat c.copy_of.result _ i.3 had c.in_err-slice.ensures.err)

pub returns-in-Ok-clause-made : goal.returns-in-Ok-clause-made
returns-in-Ok-clause-made g c =
    let before = c.loop.seat in
    let after = c.turn.new.seat in
    let told = c.in-Ok.ensures in
    made_then 0 1 c.args.seat.now before after c.loop.invariant.1
    (turned before after _ c.in-Ok.answer told.same told.ok)

pub returns-in_err-work-in-Err-clause-err : goal.returns-in_err-work-in-Err-clause-err
returns-in_err-work-in-Err-clause-err g c =
    let program = c.args.program.now in
    let i = c.loop.invariant in
    let before = c.loop.seat in
    let after = c.turn.new.seat in
    let told = c.in-Err.ensures in
    let later = c.in_err-work-in-Err.ensures in
    let slice = subst
    (λ (work : Option Work). Matches program work c.in_ok-slice.slice) c.copy_of.ensures c.in_ok-slice.ensures.ok in
    let p =
    err_from_is_err_and c.from_residual-in_err-work-in-Err.result c.from_residual-in_err-work-in-Err.ensures.1 in
    rw (p.1, p.2, later.fault) (
      made_then 0 0 c.args.seat.now before after i.1 (looked before after told.same told.err.0),
      refused program before after c.loop.work _ c.in-Err.fault i.4 slice told.same told.err.0 told.err.1
          (subst (IsLastWork c.loop.work) later.fault later.last),
    )

pub loop-preserved : goal.loop-preserved
loop-preserved g c =
    let i = c.loop.invariant in
    let before = c.loop.seat in
    let after = c.turn.new.seat in
    let told = c.in-Err.ensures in
    let had = later-had after.seen before.actor _ c.in-Err.fault c.in_ok-work-in-Err.work
    c.in_ok-work-in-Err.ensures.later told.err.1 in (
      told.same.stopped ∙ i.0,
      made_then 0 0 c.args.seat.now before after i.1 (looked before after told.same told.err.0),
      told.same.station ∙ i.2,
      told.err.0.legal,
      subst (λ actor. IsWorkOf after.seen actor c.in_ok-work-in-Err.work) (sym told.same.actor) had,
    )
