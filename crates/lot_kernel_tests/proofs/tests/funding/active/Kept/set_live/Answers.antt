use Rattle.lot_kernel_tests.proofs.Common.{arith, length, length-set, set_number, ◌-◌, ◌∙◌, ◌≤◌}
use Rattle.lot_kernel_tests.proofs.tests.funding.active.Kept.set_live.Goals as goal

pub set_live-requires-clause-kept : goal.set_live-requires-clause-kept
set_live-requires-clause-kept g c = let (live, (size, kept)) = c.self.invariant in (live, kept)

pub invariant_of-self : goal.invariant_of-self
invariant_of-self g c =
    let (live, (size, kept)) = c.self.invariant in
    let within : c.args.thread ≤ length live = omega (arith, size, c.check_thread.ensures.there) in
    (set_number live c.args.thread c.args.live, (length-set live (c.args.thread - 1) c.args.live ∙ size, c.set_live.ensures.kept live kept within))
