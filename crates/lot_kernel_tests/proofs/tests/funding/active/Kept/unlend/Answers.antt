use Rattle.lot_kernel_tests.proofs.Lemmas.{Nobody, OfLender, ends-lender_is, lends-size, sym, unlend-ends, ◌∙◌}
use Rattle.lot_kernel_tests.proofs.tests.funding.active.Kept.unlend.Goals as goal

pub detach-requires-clause-kept : goal.detach-requires-clause-kept
detach-requires-clause-kept c =
    let w = c.self.inside.graph in
    let (live, (size, kept)) = c.self.invariant in
    let at = sym c.ends_of_edge.ensures.ends ∙ c.in-Some.is in
    let adds = unlend-ends w c.unlend.new.self c.args.thread c.in-Some.ends
    (ends-lender_is w.funding c.args.thread c.in-Some.ends at) at c.unlend.ensures.unlent in
    (w, OfLender c.args.thread, live, adds, kept)

pub invariant_of-self : goal.invariant_of-self
invariant_of-self c =
    let w = c.self.inside.graph in
    let (live, (size, kept)) = c.self.invariant in
    let at = sym c.ends_of_edge.ensures.ends ∙ c.in-Some.is in
    let adds = unlend-ends w c.unlend.new.self c.args.thread c.in-Some.ends
    (ends-lender_is w.funding c.args.thread c.in-Some.ends at) at c.unlend.ensures.unlent in
    (live, (size ∙ sym (lends-size w c.unlend.new.self c.args.thread Nobody c.unlend.ensures.unlent), c.detach.ensures.kept w (OfLender c.args.thread) live adds kept))
