use Rattle.lot_chart.proofs.Lemmas.{codes, decimal, on_ok_weaker, parts-after, parts-two, tenths, ◌++◌}
use Rattle.lot_chart.proofs.charts.push_axis_mark.Goals as goal

pub returns : goal.returns
returns c =
    let number = tenths c.args.position in
    let rest = c.args.after.now ++ (decimal c.args.number ++ codes "</text>\n") in
    on_ok_weaker c.push_number_within.result
    (λ put. parts-after c.args.text.now c.args.before.now number c.args.between.now
    (number ++ rest) c.push_tenths_within.new.self c.push_number_within.new.self c.in_ok-push_tenths_within.ensures
    (parts-two c.push_tenths_within.new.self number rest c.push_tenths.new.self c.push_number_within.new.self
    c.in_ok-push_tenths.ensures put))
    c.push_number_within.ensures
