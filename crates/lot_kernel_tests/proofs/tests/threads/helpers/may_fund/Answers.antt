use Rattle.lot_kernel_tests.proofs.Common.{IsTarget, LimitedFunding, funding_in, not, refl, subst, target-may, true, ◌≡◌}
use Rattle.lot_kernel_tests.proofs.tests.threads.helpers.may_fund.Goals as goal

pub returns-clause-target : goal.returns-clause-target
returns-clause-target c free =
    let there = subst (λ (w : LimitedFunding). IsTarget w.funding c.args.target) c.graph-2.ensures
    (c.is_target.ensures c.if-not-is_target.false) in
    rw c.would_cycle.ensures.unchanged
    (target-may (funding_in c.args.threads.now) c.args.ticket _ c.args.target refl there (λ cycle. let found =
    c.would_cycle.ensures.cycle.1 cycle in let never : not true ≡ true = subst (λ b. not b ≡ true) found free in cc))
