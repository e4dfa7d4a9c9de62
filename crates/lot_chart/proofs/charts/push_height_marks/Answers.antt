use Rattle.lot_chart.proofs.Lemmas.{ap, axis_step, height_mark, parts-more, ◌*◌, ◌++◌, ◌∙◌}
use Rattle.lot_chart.proofs.charts.push_height_marks.Goals as goal

pub loop-mark-preserved : goal.loop-mark-preserved
loop-mark-preserved c =
    let most = c.args.most in
    let mark = c.loop-mark.mark in
    parts-more (height_mark most)
    (λ n. n * axis_step most) mark c.args.text.now c.loop-mark.text c.push_height_mark.new.text c.loop-mark.invariant
    (c.in_ok-push_height_mark.ensures
    ∙ ap (λ step. c.loop-mark.text ++ height_mark most (mark * step)) c.axis_step-step.ensures.exact)
