use Rattle.lot_chart.proofs.Lemmas.{on_ok_weaker, parts-two, ◌++◌}
use Rattle.lot_chart.proofs.text.Text.push_within.Goals as goal

pub returns : goal.returns
returns c =
    let rest = c.args.within.now ++ c.args.after.now in
    on_ok_weaker c.push-3.result
    (λ put.
    parts-two c.args.self.now c.args.before.now rest c.push.new.self c.push-3.new.self c.in_ok-push.ensures (parts-two
    c.push.new.self c.args.within.now c.args.after.now c.push-2.new.self c.push-3.new.self c.in_ok-push-2.ensures put))
    c.push-3.ensures
