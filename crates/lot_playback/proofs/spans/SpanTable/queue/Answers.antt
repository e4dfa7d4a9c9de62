use Rattle.lot_playback.proofs.Lemmas.{Answered, all-queued, dispatch-none, dispatch-one, few-at, few-forgotten, none-beyond, sym, world_of, ◌∙◌}
use Rattle.lot_playback.proofs.spans.SpanTable.queue.Goals as goal

pub queue_all-requires-clause-few : goal.queue_all-requires-clause-few
queue_all-requires-clause-few c =
    few-forgotten (Answered c.args.event.now c.args.reply) c.args.self.now.threads.items
    c.forget_new.new.self.threads.items c.forget_new.ensures.count
    (c.forget_new.ensures.forgets c.args.event.now) c.requires.few

pub queue_all-requires-clause-beyond : goal.queue_all-requires-clause-beyond
queue_all-requires-clause-beyond c =
    let next = (world_of c.args.system.now).state in
    none-beyond c.requires.answers.0 next c.args.event.now c.args.reply c.args.self.now.threads.items
    c.forget_new.new.self.threads.items
    c.requires.answers.1 c.requires.answers.2 c.forget_new.ensures.count (c.forget_new.ensures.forgets c.args.event.now)

pub queue_thread-requires : goal.queue_thread-requires
queue_thread-requires c = few-at c.args.self.now.threads.items c.in-Some.thread c.requires.few

pub returns-in-Some : goal.returns-in-Some
returns-in-Some c =
    let next = (world_of c.args.system.now).state in
    record {
      queued = dispatch-one c.args.time c.requires.answers.0 next c.args.event.now c.args.reply
          c.args.self.now.threads.items c.queue_thread.new.self.threads.items c.in-Some.thread
          (c.is_dispatch.ensures.0 c.if-is_dispatch.true) c.requires.answers.1 c.requires.answers.2
          (sym c.moved_thread.ensures ∙ c.in-Some.is) c.queue_thread.ensures.queued;
    }

pub returns-in_default : goal.returns-in_default
returns-in_default c =
    let next = (world_of c.args.system.now).state in
    record {
      queued = dispatch-none c.args.time c.requires.answers.0 next c.args.event.now c.args.reply
          c.args.self.now.threads.items c.args.self.now.threads.items
          (c.is_dispatch.ensures.0 c.if-is_dispatch.true) c.requires.answers.1 c.requires.answers.2
          (sym c.moved_thread.ensures ∙ c.in_default.is);
    }

pub returns : goal.returns
returns c =
    let next = (world_of c.args.system.now).state in
    record {
      queued = all-queued c.args.time c.requires.answers.0 next c.args.event.now c.args.reply
          c.args.self.now.threads.items c.queue_all.new.self.threads.items c.forget_new.new.self.threads.items
          c.forget_new.ensures.count c.queue_all.ensures.count
          (c.forget_new.ensures.forgets c.args.event.now) c.queue_all.ensures.queued;
    }
