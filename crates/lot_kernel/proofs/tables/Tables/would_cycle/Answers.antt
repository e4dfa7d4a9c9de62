use Rattle.lot_kernel.proofs.Lemmas.{Funding, IsCycle, IsTrue, ap, cycle-tested, funding_in, funding_of, subst, the_view, ticket-with, ◌↔◌}
use Rattle.lot_kernel.proofs.tables.Tables.would_cycle.Goals as goal

pub returns-clause-cycle : goal.returns-clause-cycle
returns-clause-cycle c = rw (← c.self.view_is) (subst (λ (f : Funding). IsTrue c.would_cycle.result
    ↔ IsCycle f c.args.ticket c.args.to) (ap funding_in c.self.invariant.threads) c.would_cycle.ensures.cycle)

pub returns-clause-tested : goal.returns-clause-tested
returns-clause-tested c =
    let s = (the_view c.self.inside).state in
    let (t, here) = ticket-with (funding_of s) c.args.ticket _ (rw (← c.self.view_is) at c.requires.unfunded) in
    let exact = subst (λ (f : Funding). IsTrue c.would_cycle.result ↔ IsCycle f c.args.ticket c.args.to)
    (ap funding_in c.self.invariant.threads) c.would_cycle.ensures.cycle in
    rw (← c.self.view_is) (cycle-tested s (rw (← c.self.view_is) at c.requires.order) c.args.ticket t here c.args.to
    (rw (← c.self.view_is) at c.requires.target) c.would_cycle.result exact)

pub invariant_of-self : goal.invariant_of-self
invariant_of-self c = rw c.would_cycle.ensures.unchanged c.self.invariant

pub returns-clause-unchanged : goal.returns-clause-unchanged
returns-clause-unchanged c = rw c.would_cycle.ensures.unchanged c.self.view_is
