use Rattle.lot_playback.proofs.Lemmas.{ap, arith, one-queued, queued, world_of, ◌∙◌}
use Rattle.lot_playback.proofs.spans.SpanTable.queue_thread.Goals as goal

pub returns : goal.returns
returns c =
    let s = (world_of c.args.system.now).state in
    record {
      queued = one-queued c.args.time s c.args.thread c.args.self.now.threads.items c.index.result.now c.queued.result
          (omega (arith, c.if-thread-eq0.false)) (omega (arith, c.if-len-thread.false, c.len.ensures)) c.index.ensures
          (c.queued.ensures ∙ ap (queued c.args.time c.index.result.now) c.status.ensures);
    }
