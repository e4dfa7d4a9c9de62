use Rattle.lot_chart.proofs.Lemmas.{codes, heights_label, on_ok_weaker, parts-two, ◌++◌}
use Rattle.lot_chart.proofs.charts.push_frame.Goals as goal

pub returns : goal.returns
returns c =
    let label = heights_label c.args.by c.args.window in
    let after = codes "</text>\n" in
    on_ok_weaker c.push-2.result
    (λ put.
    parts-two c.args.text.now _ (label ++ after) c.push.new.self c.push-2.new.self c.in_ok-push.ensures (parts-two
    c.push.new.self label after c.push_heights_label.new.text c.push-2.new.self c.in_ok-push_heights_label.ensures put))
    c.push-2.ensures
