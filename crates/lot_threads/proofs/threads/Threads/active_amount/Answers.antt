use Rattle.lot_threads.proofs.Lemmas.{Bool, Funding, LimitedFunding, List, Threaded, active_amount, ap, funding_in, graph-is, live_in, ◌∙◌, ◌≡◌}
use Rattle.lot_threads.proofs.threads.Threads.active_amount.Goals as goal

pub returns : goal.returns
returns c =
    let i = c.self.inside in
    let was = graph-is i.graph i.queue i.threads.items i.records.items i.runners.items c.self.invariant.together in
    let same : i.graph.now.funding ≡ funding_in c.args.self.now = ap (λ (w : LimitedFunding). w.funding) was
    ∙ ap funding_in c.self.view_is in
    let live = c.self.invariant.together.live ∙ ap (λ (x : Threaded). live_in x.records) c.self.view_is in
    c.active_amount.ensures ∙ ap (λ (l : List Bool). active_amount i.graph.now.funding l c.args.currency.number) live
    ∙ ap (λ (f : Funding). active_amount f (live_in c.args.self.now.records) c.args.currency.number) same
