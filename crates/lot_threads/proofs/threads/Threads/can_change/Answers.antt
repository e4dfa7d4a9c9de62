use Rattle.lot_threads.proofs.Lemmas.{LimitedFunding, Threaded, ap, funding_in, graph-is, lend-same, lend_of, refl, sym, ◌∙◌, ◌≡◌}
use Rattle.lot_threads.proofs.threads.Threads.can_change.Goals as goal

pub returns-clause-can : goal.returns-clause-can
returns-clause-can c =
    let i = c.self.inside in
    let was = graph-is i.graph i.queue i.threads.items i.records.items i.runners.items c.self.invariant.together in
    let same : i.graph.now.funding ≡ funding_in c.args.self.now = ap (λ (w : LimitedFunding). w.funding) was
    ∙ ap funding_in c.self.view_is in
    let stands = c.if-not-can_stand.ensures.can.0 refl in
    let lend = lend_of c.args.self.now.lending c.args.next.status in
    let lent : c.lend_of-lend.result ≡ lend = c.lend_of-lend.ensures
    ∙ ap (λ (v : Threaded). lend_of v.lending c.args.next.status) c.self.view_is in (
      λ yes. record {
        there = stands.0;
        timely = stands.1;
        lend = lend-same i.graph.now.funding (funding_in c.args.self.now) c.args.thread.number c.lend_of-lend.result
            lend same lent (c.can_lend.ensures.can.0 yes);
        run = stands.2;
      },
      λ can. c.can_lend.ensures.can.1 (lend-same (funding_in c.args.self.now) i.graph.now.funding c.args.thread.number
          lend c.lend_of-lend.result (sym same) (sym lent) can.lend),
    )
