use Rattle.lot_kernel_tests.proofs.Lemmas.{Currency, HasEachOnce, LeadsInto, backing-total, rules, subst, ◌++◌, ◌∙◌, ◌≡◌}
use Rattle.lot_kernel_tests.proofs.tests.funding.graph.backing_of.Goals as goal

pub returns : goal.returns
returns c =
    let f = c.args.graph.now.funding in
    let all : c.loop-edge.yielded ++ c.loop-edge.edge-iterator ≡ c.loop-edge.yielded = search rules in
    c.loop-edge.invariant.sum ∙ backing-total f c.args.currency c.loop-edge.yielded
    (subst (λ edges. HasEachOnce edges (LeadsInto f (Currency c.args.currency))) all c.loop-edge.invariant.listed)
