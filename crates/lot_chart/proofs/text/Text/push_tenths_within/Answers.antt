use Rattle.lot_chart.proofs.Lemmas.{on_ok_weaker, parts-two, tenths, ◌++◌}
use Rattle.lot_chart.proofs.text.Text.push_tenths_within.Goals as goal

pub returns : goal.returns
returns c =
    let number = tenths c.args.tenths in
    let after = c.args.after.now in
    on_ok_weaker c.push-2.result
    (λ put.
    parts-two c.args.self.now c.args.before.now (number ++ after) c.push.new.self c.push-2.new.self c.in_ok-push.ensures
    (parts-two c.push.new.self number after c.push_tenths.new.self c.push-2.new.self c.in_ok-push_tenths.ensures put))
    c.push-2.ensures
