use Rattle.lot_chart.proofs.Lemmas.{codes, drawn_of, on_ok_weaker, parts-two, points, stroke, ◌++◌}
use Rattle.lot_chart.proofs.charts.push_curve.Goals as goal

pub returns : goal.returns
returns c =
    let line = c.args.line.now in
    let before = codes "<polyline points='" in
    let put = points c.args.curves.now c.args.tops.now (drawn_of c.args.curves.now c.args.others.now line.thread) in
    let after = stroke line.style in
    on_ok_weaker c.push_stroke.result
    (λ last. parts-two c.args.text.now before (put ++ after) c.push.new.self c.push_stroke.new.text c.in_ok-push.ensures
    (parts-two c.push.new.self put after c.push_points_of.new.text c.push_stroke.new.text c.in_ok-push_points_of.ensures
    last))
    c.push_stroke.ensures
