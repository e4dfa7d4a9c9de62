use Rattle.lot_chart.proofs.Common.{drop, find, nat_lt, steps, unwrap_or, ◌*◌, ◌≡◌}
use Rattle.lot_chart.specs.Axes as definitions
use Rattle.lot_chart.proofs.axes.axis_step.Given as goal

-- no step passed so far is wide enough
abbrev pub invariant-loop-step : goal.invariant-loop-step
invariant-loop-step l = unwrap_or (find (λ step. nat_lt l.most (6 * step)) (drop l.step-index steps)) 2000000000
    ≡ definitions.axis_step l.most
