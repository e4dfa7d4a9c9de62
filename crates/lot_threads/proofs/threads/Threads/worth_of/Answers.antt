use Rattle.lot_threads.proofs.Lemmas.{Bool, IsThreadOf, LimitedFunding, List, Record, Threaded, ap, arith, graph-is, lend_of, length, length-map, live_in, sizes_of, subst, sym, thread_value, ◌∙◌}
use Rattle.lot_threads.proofs.threads.Threads.worth_of.Goals as goal

pub value_of-requires : goal.value_of-requires
value_of-requires c =
    let thread = subst (λ (v : Threaded). IsThreadOf v c.args.thread.number) (sym c.self.view_is) c.requires.thread in
    record { node = (thread.0, omega (arith, thread.1, c.self.invariant.together.ready.few, c.self.invariant.together.competes.places)) }

pub returns : goal.returns
returns c =
    let i = c.self.inside in
    let t = c.args.thread.number in
    let thread = subst (λ (v : Threaded). IsThreadOf v t) (sym c.self.view_is) c.requires.thread in
    let was = graph-is i.graph i.queue i.threads.items i.records.items i.runners.items c.self.invariant.together in
    let count = ap (λ (w : LimitedFunding). length w.funding.lends) was in
    rw (← c.self.view_is)
    (c.value_of.ensures.worth (rw (← c.self.view_is) at c.requires.fresh)
    (thread.0, omega (arith, thread.1, count, length-map i.records.items (λ (r : Record). lend_of (sizes_of i.lending) r.status)))
    ∙ ap
    (λ (live : List Bool). thread_value i.graph.known.unit i.graph.now.funding live t) c.self.invariant.together.live
    ∙ ap (λ (w : LimitedFunding). thread_value i.graph.known.unit w.funding (live_in i.records.items) t) was)
