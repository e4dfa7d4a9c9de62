use Rattle.lot_threads.proofs.Lemmas.{Bool, Funding, IsActive, IsTrue, LimitedFunding, List, Threaded, ap, funding_in, graph-is, live_in, subst, ◌↔◌, ◌∙◌, ◌≡◌}
use Rattle.lot_threads.proofs.threads.Threads.is_active.Goals as goal

pub returns : goal.returns
returns c =
    let i = c.self.inside in
    let was = graph-is i.graph i.queue i.threads.items i.records.items i.runners.items c.self.invariant.together in
    let same : i.graph.now.funding ≡ funding_in c.args.self.now = ap (λ (w : LimitedFunding). w.funding) was
    ∙ ap funding_in c.self.view_is in
    let live = c.self.invariant.together.live ∙ ap (λ (x : Threaded). live_in x.records) c.self.view_is in
    subst (λ (f : Funding). IsTrue c.is_active.result
    ↔ IsActive f (live_in c.args.self.now.records) c.args.ticket.number) same
    (subst (λ (l : List Bool). IsTrue c.is_active.result ↔ IsActive i.graph.now.funding l c.args.ticket.number) live
    c.is_active.ensures)
