use Rattle.lot_chart.proofs.Lemmas.{codes, colour, on_ok_weaker, parts-after, parts-two, tenths, ◌++◌}
use Rattle.lot_chart.proofs.charts.push_leader.Goals as goal

pub returns : goal.returns
returns c =
    let line = c.args.line.now in
    let before = codes "<path d='M770 " in
    let between = codes "L784 " in
    let rest = codes "' stroke='" ++ (colour line.style ++ codes "'/>\n") in
    on_ok_weaker c.push_within.result
    (λ put. parts-after c.args.text.now before (tenths line.height) between
    (tenths line.place ++ rest) c.push_tenths_within.new.self c.push_within.new.self c.in_ok-push_tenths_within.ensures
    (parts-two c.push_tenths_within.new.self
    (tenths line.place) rest c.push_tenths.new.self c.push_within.new.self c.in_ok-push_tenths.ensures put))
    (rw c.colour.ensures at c.push_within.ensures)
