use Rattle.lot_threads.proofs.Lemmas.{Bool, HasEquation, LimitedFunding, List, ap, graph-is, live_in, node_value, subst, sym, ◌∙◌}
use Rattle.lot_threads.proofs.threads.Threads.value_of.Goals as goal

pub returns : goal.returns
returns c =
    let i = c.self.inside in
    let was = graph-is i.graph i.queue i.threads.items i.records.items i.runners.items c.self.invariant.together in
    rw (← c.self.view_is) (record {
      worth = λ fresh has.
          c.value_of.ensures.worth fresh
          (subst (λ (w : LimitedFunding). HasEquation w.funding c.args.node) (sym was) has)
          ∙ ap (λ (live : List Bool). node_value i.graph.known.unit i.graph.now.funding live c.args.node)
          c.self.invariant.together.live
          ∙ ap
          (λ (w : LimitedFunding). node_value i.graph.known.unit w.funding (live_in i.records.items) c.args.node) was;
    })
