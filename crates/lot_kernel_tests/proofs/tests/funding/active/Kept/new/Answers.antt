use Rattle.lot_kernel_tests.proofs.Lemmas.{LimitedFunding, ap, length, none-live, sym, []}
use Rattle.lot_kernel_tests.proofs.tests.funding.active.Kept.new.Goals as goal

pub invariant_of-result : goal.invariant_of-result
invariant_of-result g c =
    ([], (sym (ap (λ (w : LimitedFunding). length w.funding.lends) c.in_ok-graph.ensures), c.in_ok-active.ensures.kept [] none-live))
