use Rattle.lot_value.proofs.Lemmas.{HasEquation, Node, refl, touched-one, ◌≡◌}
use Rattle.lot_value.proofs.touching.touch_node.Goals as goal

pub returns-then-has_equation-clause-touched : goal.returns-then-has_equation-clause-touched
returns-then-has_equation-clause-touched c =
    let w = c.args.graph.now in
    let has = c.has_equation.ensures.0 c.if-has_equation.true in
    let such : Node → Type 0 = λ x. (x ≡ c.args.node) × HasEquation w.funding x in
    touched-one w c.args.values.now c.touch.new.self c.args.node such
    (refl, has) has c.touch.ensures.right c.touch.ensures.kept c.touch.ensures.only c.touch.ensures.others
