use Rattle.lot_kernel_tests.proofs.Common.{arith, met_in_range, nodes_of, rules, ◌++◌, ◌∷◌, ◌≡◌}
use Rattle.lot_kernel_tests.proofs.tests.funding.lists.total.Goals as goal

pub bounds-weights-node : goal.bounds-weights-node
bounds-weights-node c =
    let split : nodes_of c.args.lists.now c.args.list ≡ c.loop-node.yielded ++ c.in-Some.node ∷ c.next.new.self =
    search rules in
    omega (arith, met_in_range _ _ _ _ _ c.iter-node-items.ensures.consistent split)
