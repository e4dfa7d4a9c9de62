use Rattle.lot_kernel_tests.proofs.Lemmas.{IsKeptFor, LimitedFunding, ap, lend-ends, lends-size, length, subst, sym, ◌∙◌}
use Rattle.lot_kernel_tests.proofs.tests.funding.active.Kept.lend.Goals as goal

pub attach-requires : goal.attach-requires
attach-requires g c =
    let may = c.check_may_lend.ensures in
    let w = c.check_may_lend.new.graph in
    let (live, (size, kept)) = c.self.invariant in
    let same = subst (λ (x : LimitedFunding). IsKeptFor c.self.inside.active x live) (sym may.unchanged) kept in
    let (ends, adds) =
    lend-ends w c.lend.new.self c.args.thread c.args.lend may.nobody may.borrower c.lend.ensures.lent in
    record { kept = (w, ends, live, adds, same) }

pub invariant_of-self : goal.invariant_of-self
invariant_of-self g c =
    let may = c.check_may_lend.ensures in
    let w = c.check_may_lend.new.graph in
    let (live, (size, kept)) = c.self.invariant in
    let same = subst (λ (x : LimitedFunding). IsKeptFor c.self.inside.active x live) (sym may.unchanged) kept in
    let (ends, adds) =
    lend-ends w c.lend.new.self c.args.thread c.args.lend may.nobody may.borrower c.lend.ensures.lent in (
      live,
      (
        size ∙ sym (ap (λ (x : LimitedFunding). length x.funding.lends) may.unchanged)
            ∙ sym (lends-size w c.lend.new.self c.args.thread c.args.lend c.lend.ensures.lent),
        c.attach.ensures.kept w ends live adds same,
      ),
    )
