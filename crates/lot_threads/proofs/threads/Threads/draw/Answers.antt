use Rattle.lot_threads.proofs.Lemmas.{Bool, LimitedFunding, List, ap, counted_up, drawn-of, drawn_among, edges_into_all, graph-is, lends_in, live_in, ready-drawn, sizes_of, subst, sym, thread_value, with_lends, ◌∙◌, ◌≡◌}
use Rattle.lot_threads.proofs.threads.Threads.draw.Goals as goal

pub invariant_of-self : goal.invariant_of-self
invariant_of-self c =
    let i = c.self.inside in record {
      together =
          drawn-of i.graph c.draw.new.graph i.queue c.draw.new.self i.threads.items i.records.items i.runners.items
          c.self.invariant.together c.draw.ensures.now c.draw.ensures.live c.draw.ensures.queue c.draw.ensures.weights;
      thread_room = subst (λ (w : LimitedFunding). i.threads.room ≡ w.thread_limit)
          (sym c.draw.ensures.now) c.self.invariant.thread_room;
      record_room = subst (λ (w : LimitedFunding). i.records.room ≡ w.thread_limit)
          (sym c.draw.ensures.now) c.self.invariant.record_room;
    }

pub returns-clause-winner : goal.returns-clause-winner
returns-clause-winner c =
    let i = c.self.inside in
    let of = c.self.invariant.together in
    let was = graph-is i.graph i.queue i.threads.items i.records.items i.runners.items of in
    rw (← c.self.view_is) (c.draw.ensures.winner
    ∙ ap (λ (live : List Bool). drawn_among i.queue.quantum i.queue.competitors
    (thread_value i.graph.known.unit i.graph.now.funding live) c.args.d) of.live
    ∙ ap (λ (w : LimitedFunding). drawn_among i.queue.quantum i.queue.competitors
    (thread_value i.graph.known.unit w.funding (live_in i.records.items)) c.args.d) was
    ∙ ready-drawn i.records.items i.queue.quantum (thread_value i.graph.known.unit (with_lends i.graph.now (lends_in
    (sizes_of i.lending) i.records.items)).funding (live_in i.records.items)) i.queue.competitors of.ready c.args.d)

pub returns-clause-reads : goal.returns-clause-reads
returns-clause-reads c =
    let i = c.self.inside in
    let was = graph-is i.graph i.queue i.threads.items i.records.items i.runners.items c.self.invariant.together in
    rw (← c.self.view_is) (c.draw.ensures.reads
    ∙ ap (λ (w : LimitedFunding). counted_up i.graph.known.reads (edges_into_all w.funding i.graph.known.stale)) was)
