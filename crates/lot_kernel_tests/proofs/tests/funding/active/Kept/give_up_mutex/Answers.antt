use Rattle.lot_kernel_tests.proofs.Lemmas.{LimitedFunding, OfMutex, ap, give-ends, length, sym, ◌∙◌}
use Rattle.lot_kernel_tests.proofs.tests.funding.active.Kept.give_up_mutex.Goals as goal

pub detach-requires-clause-kept : goal.detach-requires-clause-kept
detach-requires-clause-kept g c =
    let w = c.self.inside.graph in
    let (live, (size, kept)) = c.self.invariant in
    let there = c.check_mutex.ensures.there in
    let adds = give-ends w c.give_up_mutex.new.self c.args.mutex c.in-Some.ends there
    (sym c.ends_of_edge.ensures.ends ∙ c.in-Some.is) c.give_up_mutex.ensures.freed in
    (w, OfMutex c.args.mutex, live, adds, kept)

pub invariant_of-self : goal.invariant_of-self
invariant_of-self g c =
    let w = c.self.inside.graph in
    let (live, (size, kept)) = c.self.invariant in
    let there = c.check_mutex.ensures.there in
    let adds = give-ends w c.give_up_mutex.new.self c.args.mutex c.in-Some.ends there
    (sym c.ends_of_edge.ensures.ends ∙ c.in-Some.is) c.give_up_mutex.ensures.freed in
    (live, (size ∙ sym (ap (λ (x : LimitedFunding). length x.funding.lends) c.give_up_mutex.ensures.freed), c.detach.ensures.kept w (OfMutex c.args.mutex) live adds kept))
