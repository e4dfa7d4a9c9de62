use Rattle.lot_kernel_tests.proofs.Lemmas.{IsTarget, LimitedFunding, Some, Unfunded, ap, fund-ends, length, rules, sym, target_of, ◌∙◌, ◌≡◌}
use Rattle.lot_kernel_tests.proofs.tests.funding.active.Kept.fund.Goals as goal

pub attach-requires : goal.attach-requires
attach-requires g c =
    let w = c.self.inside.graph in
    let (live, (size, kept)) = c.self.invariant in
    let unfunded : target_of w.funding c.args.ticket ≡ Some Unfunded = search rules in
    let there : IsTarget w.funding c.args.target = search rules in
    let (ends, adds) = fund-ends w c.fund.new.self c.args.ticket c.args.target unfunded there c.in-Ok.ensures.funded in
    record { kept = (w, ends, live, adds, kept) }

pub invariant_of-self : goal.invariant_of-self
invariant_of-self g c =
    let w = c.self.inside.graph in
    let (live, (size, kept)) = c.self.invariant in
    let unfunded : target_of w.funding c.args.ticket ≡ Some Unfunded = search rules in
    let there : IsTarget w.funding c.args.target = search rules in
    let (ends, adds) = fund-ends w c.fund.new.self c.args.ticket c.args.target unfunded there c.in-Ok.ensures.funded in
    (live, (size ∙ sym (ap (λ (x : LimitedFunding). length x.funding.lends) c.in-Ok.ensures.funded), c.attach.ensures.kept w ends live adds kept))
