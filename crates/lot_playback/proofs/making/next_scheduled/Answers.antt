use Rattle.lot_playback.proofs.Lemmas.{List, None, Program, ap, arith, get_or, length, place-next, place-none, refl, sym, ℕ, ◌∙◌}
use Rattle.lot_playback.proofs.making.next_scheduled.Goals as goal

pub returns-then-schedule-place-clause-none : goal.returns-then-schedule-place-clause-none
returns-then-schedule-place-clause-none c =
    let lines = c.schedule-schedule.ensures.schedule ∙ ap (λ (p : Program). p.schedule) (sym c.requires.program) in
    place-none c.args.system.now c.args.place c.requires.there
    (omega (arith, c.if-schedule-place.true, ap length lines))

pub returns-clause-next : goal.returns-clause-next
returns-clause-next c =
    let lines = c.schedule-schedule.ensures.schedule ∙ ap (λ (p : Program). p.schedule) (sym c.requires.program) in
    place-next c.args.system.now c.args.place c.requires.there (record { time = None; actor = c.from.result })
    (omega (arith, c.if-schedule-place.false, ap length lines)) refl
    (c.from.ensures ∙ ap (λ (xs : List ℕ). get_or xs c.args.place 0) lines)
