use Rattle.lot_chart.proofs.Lemmas.{ap, get_or, parts-sample, point, sample_point, ◌++◌, ◌∙◌}
use Rattle.lot_chart.proofs.charts.push_points.Goals as goal

pub loop-sample-preserved : goal.loop-sample-preserved
loop-sample-preserved c =
    let curves = c.args.curves.now in
    let heads = c.args.tops.now in
    let stretches = c.args.stretches.now in
    let sample = c.loop-sample.sample in
    parts-sample (sample_point curves heads stretches) sample c.args.text.now c.loop-sample.text c.push_point.new.text
    c.loop-sample.invariant
    (c.in_ok-push_point.ensures
    ∙ ap (λ n. c.loop-sample.text ++ point curves (get_or heads sample 0) stretches n) c.sample_tick.ensures.tick)
