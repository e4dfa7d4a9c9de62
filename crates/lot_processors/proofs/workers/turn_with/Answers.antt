-- A made turn counts once. A refused one leaves the seat unchanged, and the work that it carries is tried, or was the
-- last.
use Rattle.lot_processors.proofs.Lemmas.{AtSome, Holder, IsLastWork, IsWorkOf, Matches, Option, StopsTurn, Work, err_from_is_err_and, none_made, refl, subst, sym, turned, ◌∙◌}
use Rattle.lot_processors.specs.Workers.{HasMade}
use Rattle.lot_processors.proofs.SeatWork.{later-had, refused, unfit}
use Rattle.lot_processors.proofs.workers.turn_with.Goals as goal

pub loop-init : goal.loop-init
loop-init g c = (refl, c.requires)

pub returns-in_err-slice-clause-err : goal.returns-in_err-slice-clause-err
returns-in_err-slice-clause-err g c =
    let setting = c.args.station.now in
    let program = c.args.program.now in
    let i = c.loop.invariant in
    let had = subst (λ (work : Option Work). AtSome setting (λ x. IsWorkOf x c.loop.seat.actor work))
    (sym c.copy_of.ensures) i.1 in
    let p = err_from_is_err_and c.from_residual.result c.from_residual.ensures.1 in
    rw (p.1, p.2)
    (i.0, subst (λ (h : Holder). StopsTurn setting program h.actor c.in_err-slice.field-0.0) i.0 (unfit setting program c.loop.seat.actor _ c.copy_of.result had c.in_err-slice.ensures.err))

pub returns-in-Ok-clause-made : goal.returns-in-Ok-clause-made
returns-in-Ok-clause-made g c =
    let setting = c.args.station.now in
    let before = c.args.seat.now in
    let told = c.in-Ok.ensures in
    let none = subst (λ (h : Holder). HasMade setting 0 before h) (sym c.loop.invariant.0) (none_made setting before) in
    turned setting 0 before c.loop.seat c.turn.new.seat _ c.in-Ok.answer none told.ok told.answer

pub returns-in-Ok-clause-next : goal.returns-in-Ok-clause-next
returns-in-Ok-clause-next g c =
    subst (λ (h : Holder). AtSome c.args.station.now (λ x. IsWorkOf x h.actor c.in-Ok.answer.next)) c.loop.invariant.0
    c.in-Ok.ensures.next

pub returns-in_err-work-in-Err-clause-err : goal.returns-in_err-work-in-Err-clause-err
returns-in_err-work-in-Err-clause-err g c =
    let setting = c.args.station.now in
    let program = c.args.program.now in
    let i = c.loop.invariant in
    let told = c.in-Err.ensures in
    let later = c.in_err-work-in-Err.ensures in
    let slice = subst
    (λ (work : Option Work). Matches program work c.in_ok-slice.slice) c.copy_of.ensures c.in_ok-slice.ensures.ok in
    let p =
    err_from_is_err_and c.from_residual-in_err-work-in-Err.result c.from_residual-in_err-work-in-Err.ensures.1 in
    rw (p.1, p.2, later.fault)
    (told.err ∙ i.0, subst (λ (h : Holder). StopsTurn setting program h.actor c.in-Err.fault) i.0 (refused setting program c.loop.seat.actor c.in-Err.fault c.loop.work _ i.1 slice told.fault (subst (IsLastWork c.loop.work) later.fault later.last)))

pub loop-preserved : goal.loop-preserved
loop-preserved g c =
    let setting = c.args.station.now in
    let i = c.loop.invariant in
    let told = c.in-Err.ensures in
    let seat = told.err ∙ i.0 in
    (seat, subst (λ (h : Holder). AtSome setting (λ x. IsWorkOf x h.actor c.in_ok-work-in-Err.work)) (i.0 ∙ sym seat) (later-had setting c.loop.seat.actor _ c.in-Err.fault c.in_ok-work-in-Err.work c.in_ok-work-in-Err.ensures.later told.fault))
