use Rattle.lot_chart.proofs.Lemmas.{codes, colour, on_ok_weaker, parts-two, strokes, ◌++◌}
use Rattle.lot_chart.proofs.charts.push_stroke.Goals as goal

pub returns : goal.returns
returns c =
    let style = c.args.style in
    let before = codes "' stroke='" in
    let rest = codes "'" ++ (strokes style ++ codes "/>\n") in
    let second = rw c.colour.ensures at c.in_ok-push-2.ensures in
    on_ok_weaker c.push_within.result
    (λ put.
    parts-two c.args.text.now before (colour style ++ rest) c.push.new.self c.push_within.new.self c.in_ok-push.ensures
    (parts-two c.push.new.self (colour style) rest c.push-2.new.self c.push_within.new.self second put))
    (rw c.strokes.ensures at c.push_within.ensures)
