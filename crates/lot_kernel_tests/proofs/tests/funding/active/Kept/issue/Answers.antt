use Rattle.lot_kernel_tests.proofs.BothLemmas.{issue-both}
use Rattle.lot_kernel_tests.proofs.tests.funding.active.Kept.issue.Goals as goal

pub invariant_of-self : goal.invariant_of-self
invariant_of-self g c =
    issue-both c.self.inside.graph c.issue-made.new.self c.self.inside.active c.self.invariant
    c.issue-made.ensures.sound c.issue-made.ensures.fits c.issue-made.result c.args.amount c.args.currency
    c.issue-made.ensures.issued c.issue-made.ensures.unchanged
