use Rattle.lot_chart.proofs.Lemmas.{codes, decimal, on_ok_weaker, parts-after, parts-two, rules, ◌++◌, ◌-◌, ◌≡◌}
use Rattle.lot_chart.proofs.charts.push_command_mark.Goals as goal

pub returns : goal.returns
returns c =
    let tick : c.saturating_sub-tick.result ≡ c.args.time - c.origin.result = search rules in
    let before = codes "<path d='M" in
    let between = codes " 60V460' stroke='#bbbbbb' stroke-dasharray='3 3'><title>command at " in
    let number = decimal c.args.time in
    let after = codes "</title></path>\n" in
    let first =
    rw (c.across.ensures, c.last.ensures.last, tick, c.origin.ensures.origin) at c.in_ok-push_tenths_within.ensures in
    on_ok_weaker c.push.result
    (λ put.
    parts-after c.args.text.now before _ between (number ++ after) c.push_tenths_within.new.self c.push.new.self first
    (parts-two c.push_tenths_within.new.self number after c.push_number.new.self c.push.new.self
    c.in_ok-push_number.ensures put))
    c.push.ensures
