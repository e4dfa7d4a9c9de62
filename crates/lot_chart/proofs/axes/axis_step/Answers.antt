use Rattle.lot_chart.proofs.Lemmas.{first-found, first-later, steps, sym, ◌∙◌}
use Rattle.lot_chart.proofs.axes.axis_step.Goals as goal

pub returns-then-most-step-clause-exact : goal.returns-then-most-step-clause-exact
returns-then-most-step-clause-exact c =
    sym (first-found c.args.most 2000000000 steps c.loop-step.step-index c.from-step.result c.loop-step-test.true
    c.from-step.ensures c.if-most-step.true) ∙ c.loop-step.invariant

pub loop-step-preserved : goal.loop-step-preserved
loop-step-preserved c =
    sym (first-later c.args.most 2000000000 steps c.loop-step.step-index c.from-step.result c.loop-step-test.true
    c.from-step.ensures c.if-most-step.false) ∙ c.loop-step.invariant
