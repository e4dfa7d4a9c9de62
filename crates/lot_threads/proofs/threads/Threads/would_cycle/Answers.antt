use Rattle.lot_threads.proofs.Lemmas.{Funding, IsCycle, IsTrue, LimitedFunding, ap, funding_in, graph-is, subst, ◌↔◌, ◌∙◌, ◌≡◌}
use Rattle.lot_threads.proofs.threads.Threads.would_cycle.Goals as goal

pub returns-clause-cycle : goal.returns-clause-cycle
returns-clause-cycle c =
    let i = c.self.inside in
    let was = graph-is i.graph i.queue i.threads.items i.records.items i.runners.items c.self.invariant.together in
    let same : i.graph.now.funding ≡ funding_in c.args.self.now = ap (λ (w : LimitedFunding). w.funding) was
    ∙ ap funding_in c.self.view_is in
    subst (λ (f : Funding). IsTrue c.would_cycle.result ↔ IsCycle f c.args.ticket.number c.args.target) same
    c.would_cycle.ensures.cycle
