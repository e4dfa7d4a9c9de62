use Rattle.lot_value.proofs.Lemmas.{Done, PutThread, lend-and-sleep, live-and-lend, subst, sym}
use Rattle.lot_value.proofs.relending.put_thread.Goals as goal

pub returns-then-live : goal.returns-then-live
returns-then-live c =
    let done =
    subst (λ live. Done (PutThread c.args.thread c.args.lend live) c.args.graph.now c.relend.new.graph)
    (sym c.if-live.true)
    (live-and-lend c.args.graph.now c.set_live.new.self c.relend.new.graph c.args.thread c.args.lend
    c.set_live.ensures.follows c.relend.ensures.follows) in
    record { applied = done.applied_to; stale = done.stale }

pub returns-else-live : goal.returns-else-live
returns-else-live c =
    let done =
    subst (λ live. Done (PutThread c.args.thread c.args.lend live) c.args.graph.now c.set_live-else-live.new.self)
    (sym c.if-live.false)
    (lend-and-sleep c.args.graph.now c.relend-else-live.new.graph c.set_live-else-live.new.self c.args.thread
    c.args.lend c.relend-else-live.ensures.follows c.set_live-else-live.ensures.follows) in
    record { applied = done.applied_to; stale = done.stale }
