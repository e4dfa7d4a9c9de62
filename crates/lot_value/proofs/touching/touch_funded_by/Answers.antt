use Rattle.lot_value.proofs.Lemmas.{IsEdge, IsUser, Node, touched-none, touched-then}
use Rattle.lot_value.proofs.touching.touch_funded_by.Goals as goal

pub returns-then-is_user_currency-clause-touched : goal.returns-then-is_user_currency-clause-touched
returns-then-is_user_currency-clause-touched c =
    let w = c.args.graph.now in
    let user = c.is_user_currency.ensures.0 c.if-is_user_currency.true in
    let such : Node → Type 0 = λ to. IsUser c.args.node × IsEdge w.funding c.args.node to in
    touched-then w c.args.values.now c.args.values.now c.touch_targets.new.values such (IsEdge w.funding c.args.node)
    such (touched-none w c.args.values.now such) c.touch_targets.ensures.touched (λ x so. so) (λ x edge. (user, edge))
