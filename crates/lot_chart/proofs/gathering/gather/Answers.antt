use Rattle.lot_chart.proofs.Lemmas.{Curves, IfOk, IsSome, refl, subst, sym, timed-curves-are, untimed-curves-are, ◌∙◌, ◌≡◌}
use Rattle.lot_chart.proofs.gathering.gather.Goals as goal

pub returns-in-None-clause-curves : goal.returns-in-None-clause-curves
returns-in-None-clause-curves c =
    subst (λ (made : Curves). IfOk c.gather_by.result (λ curves. curves ≡ made)) (untimed-curves-are c.args.by
    c.args.program.now (sym c.duration.ensures.duration ∙ c.in-None.is)) c.gather_by.ensures.curves

pub returns-in-Some-clause-curves : goal.returns-in-Some-clause-curves
returns-in-Some-clause-curves c =
    let timed : IsSome c.args.program.now.duration =
    subst IsSome (sym c.in-Some.is ∙ c.duration.ensures.duration) refl in
    subst (λ (made : Curves). IfOk c.gather_by-in-Some.result (λ curves. curves ≡ made)) (sym (timed-curves-are
    c.args.by c.args.program.now c.args.program.now.duration refl timed)) c.gather_by-in-Some.ensures.curves
