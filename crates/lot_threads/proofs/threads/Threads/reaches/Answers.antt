use Rattle.lot_threads.proofs.Lemmas.{Funding, IsTrue, LimitedFunding, Reaches, ap, funding_in, graph-is, subst, ◌↔◌, ◌∙◌, ◌≡◌}
use Rattle.lot_threads.proofs.threads.Threads.reaches.Goals as goal

pub returns-clause-reaches : goal.returns-clause-reaches
returns-clause-reaches c =
    let i = c.self.inside in
    let was = graph-is i.graph i.queue i.threads.items i.records.items i.runners.items c.self.invariant.together in
    let same : i.graph.now.funding ≡ funding_in c.args.self.now = ap (λ (w : LimitedFunding). w.funding) was
    ∙ ap funding_in c.self.view_is in
    subst (λ (f : Funding). IsTrue c.reaches.result ↔ Reaches f c.args.from c.args.to) same c.reaches.ensures.reaches
