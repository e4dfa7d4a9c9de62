use Rattle.lot_threads.proofs.Lemmas.{LimitedFunding, Queued, ap, arith, opened-of}
use Rattle.lot_threads.proofs.threads.Threads.new.Goals as goal

pub invariant_of-result : goal.invariant_of-result
invariant_of-result c =
    let limits = c.args.limits.now in
    let graph = c.in_ok-graph.ensures in
    let queue = c.in_ok-queue.ensures in
    let tables = c.in_ok-threads.ensures in
    let limit = ap (λ (w : LimitedFunding). w.thread_limit) graph.now in
    record {
      together = opened-of _ _ _ _ _ limits.threads limits.processors
          (ap (λ (w : LimitedFunding). w.funding.lends) graph.now) graph.live limit
          (ap (λ (x : Queued). x.competitors) queue.queue) queue.weights
          tables.no_threads tables.no_records tables.free;
      thread_room = omega (arith, tables.thread_room, limit);
      record_room = omega (arith, tables.record_room, limit);
    }
