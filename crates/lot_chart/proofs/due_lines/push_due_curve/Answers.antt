use Rattle.lot_chart.proofs.Lemmas.{codes, due_points, on_ok_weaker, parts-two, stroke, ◌++◌}
use Rattle.lot_chart.proofs.due_lines.push_due_curve.Goals as goal

pub returns : goal.returns
returns c =
    let line = c.args.line in
    let before = codes "<polyline points='" in
    let after = stroke line.style in
    on_ok_weaker c.push_stroke.result
    (λ last due shown are is.
    let put = due_points c.args.curves.now due shown c.args.tops.now line.thread in
    parts-two c.args.text.now before (put ++ after) c.push.new.self c.push_stroke.new.text c.in_ok-push.ensures
    (parts-two c.push.new.self put after c.push_due_points.new.text c.push_stroke.new.text
    (c.in_ok-push_due_points.ensures due shown are is) last))
    c.push_stroke.ensures
