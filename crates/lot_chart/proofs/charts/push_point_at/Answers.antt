use Rattle.lot_chart.proofs.Lemmas.{across, codes, last_end, on_ok_weaker, parts-after, tenths}
use Rattle.lot_chart.proofs.charts.push_point_at.Goals as goal

pub returns : goal.returns
returns c =
    let before = codes " " in
    let between = codes "," in
    let first = rw (c.across.ensures, c.last.ensures.last) at c.in_ok-push_tenths_within.ensures in
    on_ok_weaker c.push_tenths.result
    (parts-after c.args.text.now before (tenths (across (last_end c.args.curves.now.stretches) c.args.tick)) between
    (tenths c.args.height) c.push_tenths_within.new.self c.push_tenths.new.self first)
    c.push_tenths.ensures
