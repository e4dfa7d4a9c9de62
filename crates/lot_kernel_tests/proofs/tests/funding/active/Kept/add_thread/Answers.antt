use Rattle.lot_kernel_tests.proofs.BothLemmas.{thread-both}
use Rattle.lot_kernel_tests.proofs.tests.funding.active.Kept.add_thread.Goals as goal

pub invariant_of-self : goal.invariant_of-self
invariant_of-self g c = thread-both c.self.inside.graph c.add_thread.new.self c.self.inside.active c.self.invariant
    c.add_thread.ensures.sound c.add_thread.ensures.fits c.add_thread.ensures.added
