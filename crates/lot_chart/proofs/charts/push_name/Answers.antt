use Rattle.lot_chart.proofs.Lemmas.{codes, escaped, name_of, on_ok_weaker, parts-after, parts-two, share_of, tenths, ◌++◌}
use Rattle.lot_chart.proofs.charts.push_name.Goals as goal

pub returns : goal.returns
returns c =
    let line = c.args.line.now in
    let before = codes "<text x='788' y='" in
    let between = codes "' dy='4'>" in
    let name = escaped (name_of c.args.names.now line.thread) in
    let rest = codes " " ++ (tenths (share_of c.args.total line.ticks) ++ codes "%</text>\n") in
    let second = rw c.name_of.ensures.name at c.in_ok-push_escaped.ensures in
    on_ok_weaker c.push_tenths_within-2.result
    (λ put. parts-after c.args.text.now before (tenths line.place) between
    (name ++ rest) c.push_tenths_within.new.self c.push_tenths_within-2.new.self c.in_ok-push_tenths_within.ensures
    (parts-two c.push_tenths_within.new.self name rest c.push_escaped.new.text c.push_tenths_within-2.new.self second
    put))
    (rw c.share_of.ensures at c.push_tenths_within-2.ensures)
