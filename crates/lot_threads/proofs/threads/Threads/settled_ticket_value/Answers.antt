use Rattle.lot_threads.proofs.Lemmas.{Bool, LimitedFunding, List, ap, graph-is, live_in, ticket_value, ◌∙◌}
use Rattle.lot_threads.proofs.threads.Threads.settled_ticket_value.Goals as goal

pub returns : goal.returns
returns c =
    let i = c.self.inside in
    let was = graph-is i.graph i.queue i.threads.items i.records.items i.runners.items c.self.invariant.together in
    rw (← c.self.view_is) (λ t there. c.settled_ticket_value.ensures t there
    ∙ ap
    (λ (live : List Bool). ticket_value i.graph.known.unit i.graph.now.funding live t) c.self.invariant.together.live
    ∙ ap (λ (w : LimitedFunding). ticket_value i.graph.known.unit w.funding (live_in i.records.items) t) was)
