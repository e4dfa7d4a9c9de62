use Rattle.lot_chart.proofs.Lemmas.{codes, due_curve, flat_map, on_ok_weaker, parts-two, ◌++◌}
use Rattle.lot_chart.proofs.due_lines.push_thin_lines.Goals as goal

pub returns : goal.returns
returns c =
    let after = codes "</g>\n" in
    on_ok_weaker c.push-2.result
    (λ last due shown are is.
    let put = flat_map (due_curve c.args.curves.now due shown c.args.tops.now) c.args.lines.now in
    parts-two c.args.text.now _ (put ++ after) c.push.new.self c.push-2.new.self c.in_ok-push.ensures
    (parts-two c.push.new.self put after c.push_lines.new.text c.push-2.new.self
    (c.in_ok-push_lines.ensures due shown are is) last))
    c.push-2.ensures
