use Rattle.lot_kernel_tests.proofs.BothLemmas.{currency-both}
use Rattle.lot_kernel_tests.proofs.tests.funding.active.Kept.make_currency.Goals as goal

pub invariant_of-self : goal.invariant_of-self
invariant_of-self g c =
    currency-both c.self.inside.graph c.make_currency-made.new.self c.self.inside.active c.self.invariant
    c.make_currency-made.ensures.sound c.make_currency-made.ensures.fits c.make_currency-made.result _
    c.make_currency-made.ensures.made c.make_currency-made.ensures.unchanged
