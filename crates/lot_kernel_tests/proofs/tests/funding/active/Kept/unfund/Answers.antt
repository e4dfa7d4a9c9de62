use Rattle.lot_kernel_tests.proofs.Lemmas.{IsFunding, LimitedFunding, OfTicket, ap, length, rules, sym, unfund-ends, ◌∙◌}
use Rattle.lot_kernel_tests.proofs.tests.funding.active.Kept.unfund.Goals as goal

pub detach-requires-clause-kept : goal.detach-requires-clause-kept
detach-requires-clause-kept g c =
    let w = c.self.inside.graph in
    let (live, (size, kept)) = c.self.invariant in
    let funds : IsFunding w.funding c.args.ticket = search rules in
    let adds = unfund-ends w c.unfund.new.self c.args.ticket c.in-Some.ends funds
    (sym c.ends_of_edge.ensures.ends ∙ c.in-Some.is) c.unfund.ensures.unfunded in
    (w, OfTicket c.args.ticket, live, adds, kept)

pub invariant_of-self : goal.invariant_of-self
invariant_of-self g c =
    let w = c.self.inside.graph in
    let (live, (size, kept)) = c.self.invariant in
    let funds : IsFunding w.funding c.args.ticket = search rules in
    let adds = unfund-ends w c.unfund.new.self c.args.ticket c.in-Some.ends funds
    (sym c.ends_of_edge.ensures.ends ∙ c.in-Some.is) c.unfund.ensures.unfunded in
    (live, (size ∙ sym (ap (λ (x : LimitedFunding). length x.funding.lends) c.unfund.ensures.unfunded), c.detach.ensures.kept w (OfTicket c.args.ticket) live adds kept))
