use Rattle.lot_kernel.proofs.Lemmas.{BadProcessor, Busy, Contains, CountsReads, List, MakesStaleIn, Meter, Node, Ready, Record, Runner, Snapshot, Some, Step, Threaded, ap, arith, at_number, busy-on, change-count, change_record, contains-nothing, counted_up, drawn_in, edges_into_all, event_refusal, freed_in, funding_in, held, held-records, held-stale, inl, is_bad_processor, is_some, keeps-threads, length, option_and_then, refl, refused-event-reply, refused-event-state, settled, sizes_of, start-fresh, started, status-there, status_of, step-idle, step-won, subst, sym, the_view, thread_on, true, with_records, ℕ, [], ◌∙◌, ◌≡◌}
use Rattle.lot_machine.specs.declared.event.Event.TheVariants as event
use Rattle.lot_machine.specs.declared.reply.Reply.TheVariants as answer
use Rattle.lot_kernel.proofs.tables.Tables.draw.Goals as goal

pub returns-in_default-clause-reply : goal.returns-in_default-clause-reply
returns-in_default-clause-reply c =
    let i = c.self.inside in
    let s = (the_view i).state in
    let good = ap (λ (x : Snapshot). is_bad_processor x.state c.args.processor.number) c.self.view_is
    ∙ sym c.if-is_bad_processor.ensures in
    let free = busy-on c.runner.result (λ (r : Runner). r.thread.number)
    (thread_on s.records c.args.processor.number) c.runner.ensures.thread ∙ sym c.if-is_some.ensures in
    let none = ap (λ (v : Threaded). drawn_in v c.args.d) (sym c.self.invariant.threads) ∙ sym c.draw.ensures.winner
    ∙ c.in_default.is in
    rw (← c.self.view_is) (sym (ap (λ (x : Step). x.reply)
    (step-idle s c.args.processor.number c.args.d good free i.threads.stale i.threads.meter none)))

pub returns-in_default-clause-state : goal.returns-in_default-clause-state
returns-in_default-clause-state c =
    let i = c.self.inside in
    let s = (the_view i).state in
    let good = ap (λ (x : Snapshot). is_bad_processor x.state c.args.processor.number) c.self.view_is
    ∙ sym c.if-is_bad_processor.ensures in
    let free = busy-on c.runner.result (λ (r : Runner). r.thread.number)
    (thread_on s.records c.args.processor.number) c.runner.ensures.thread ∙ sym c.if-is_some.ensures in
    let none = ap (λ (v : Threaded). drawn_in v c.args.d) (sym c.self.invariant.threads) ∙ sym c.draw.ensures.winner
    ∙ c.in_default.is in
    rw (← c.self.view_is) (ap (λ (v : Threaded). held (sizes_of i.limits)
    (freed_in i.freed) i.currencies.items v i.queues) c.draw.ensures.settled ∙ sym (ap (λ (x : Step). x.state)
    (step-idle s c.args.processor.number c.args.d good free i.threads.stale i.threads.meter none)))

pub returns-in_default-clause-counts : goal.returns-in_default-clause-counts
returns-in_default-clause-counts c =
    let i = c.self.inside in
    let reads = ap (λ (v : Threaded). counted_up i.threads.meter.ticket_reads (edges_into_all (funding_in v) v.stale))
    c.self.invariant.threads in
    rw (← c.self.view_is)
    (record { fresh = ap (λ (v : Threaded). v.stale) c.draw.ensures.settled; once = c.draw.ensures.once; reads = c.draw.ensures.reads ∙ reads }, c.in_default.ensures.visits)

pub start-delivered-requires-clause-thread : goal.start-delivered-requires-clause-thread
start-delivered-requires-clause-thread c =
    let there = status-there c.self.inside.threads.records c.in-Some.winner.thread Ready c.in-Some.ensures.ready in
    (there.0, omega (arith, there.1, ap (λ (v : Threaded). length v.records) c.draw.ensures.settled))

pub returns-clause-reply : goal.returns-clause-reply
returns-clause-reply c =
    let i = c.self.inside in
    let s = (the_view i).state in
    let w = c.in-Some.winner in
    let good = ap (λ (x : Snapshot). is_bad_processor x.state c.args.processor.number) c.self.view_is
    ∙ sym c.if-is_bad_processor.ensures in
    let free = busy-on c.runner.result (λ (r : Runner). r.thread.number)
    (thread_on s.records c.args.processor.number) c.runner.ensures.thread ∙ sym c.if-is_some.ensures in
    let some = ap (λ (v : Threaded). drawn_in v c.args.d) (sym c.self.invariant.threads) ∙ sym c.draw.ensures.winner
    ∙ c.in-Some.is in
    let delivered = c.start-delivered.ensures.delivered ∙ ap (λ (v : Threaded).
    option_and_then (λ (r : Record). r.delivered) (at_number v.records w.thread)) c.draw.ensures.settled in
    rw (← c.self.view_is) (ap (answer.Winner w.thread w.number w.total) delivered ∙ sym (ap (λ (x : Step). x.reply)
    (step-won s c.args.processor.number c.args.d good free i.threads.stale i.threads.meter w some)))

pub returns-clause-state : goal.returns-clause-state
returns-clause-state c =
    let i = c.self.inside in
    let s = (the_view i).state in
    let w = c.in-Some.winner in
    let good = ap (λ (x : Snapshot). is_bad_processor x.state c.args.processor.number) c.self.view_is
    ∙ sym c.if-is_bad_processor.ensures in
    let free = busy-on c.runner.result (λ (r : Runner). r.thread.number)
    (thread_on s.records c.args.processor.number) c.runner.ensures.thread ∙ sym c.if-is_some.ensures in
    let some = ap (λ (v : Threaded). drawn_in v c.args.d) (sym c.self.invariant.threads) ∙ sym c.draw.ensures.winner
    ∙ c.in-Some.is in
    rw (← c.self.view_is) (ap (λ (v : Threaded).
    held (sizes_of i.limits) (freed_in i.freed) i.currencies.items v i.queues) c.start-delivered.ensures.started
    ∙ ap (λ (v : Threaded). held (sizes_of i.limits) (freed_in i.freed) i.currencies.items (with_records v
    (change_record (started c.args.processor.number) v.records w.thread) v.stale) i.queues) c.draw.ensures.settled
    ∙ sym (ap (λ (x : Step). x.state)
    (step-won s c.args.processor.number c.args.d good free i.threads.stale i.threads.meter w some)))

fresh : (v settled new : Threaded) (p t : ℕ) → settled ≡ record v { stale = []; meter = settled.meter }
    → status_of v.records t ≡ Some Ready
    → new ≡ with_records settled (change_record (started p) settled.records t) new.stale → MakesStaleIn settled new
    → new.stale ≡ []
fresh v settled new p t is ready = start-fresh settled new p t (ap (λ (x : Threaded). x.stale) is)
    (ap (λ (x : Threaded). status_of x.records t) is ∙ ready)

pub returns-clause-stale : goal.returns-clause-stale
returns-clause-stale c x stale =
    let none = fresh c.self.inside.threads c.draw.new.self c.start-delivered.new.self c.args.processor.number
    c.in-Some.winner.thread c.draw.ensures.settled c.in-Some.ensures.ready c.start-delivered.ensures.started
    c.start-delivered.ensures.stale in
    absurd (contains-nothing x (subst (λ (nodes : List Node). Contains nodes x) none stale))

pub returns-clause-counts : goal.returns-clause-counts
returns-clause-counts c =
    let i = c.self.inside in
    let reads = ap (λ (v : Threaded). counted_up i.threads.meter.ticket_reads (edges_into_all (funding_in v) v.stale))
    c.self.invariant.threads in
    let none =
    fresh i.threads c.draw.new.self c.start-delivered.new.self c.args.processor.number c.in-Some.winner.thread
    c.draw.ensures.settled c.in-Some.ensures.ready c.start-delivered.ensures.started c.start-delivered.ensures.stale in
    let limit = ap (λ (v : Threaded). v.thread_limit) c.self.invariant.threads in
    let kept = ap (λ (v : Threaded). v.meter) c.start-delivered.ensures.started in
    let visits = subst
    (λ n. CountsReads n i.threads.meter.tree_visits c.draw.new.self.meter.tree_visits) limit c.in-Some.ensures.visits in
    rw (← c.self.view_is) (
      record { fresh = none; once = c.draw.ensures.once; reads = ap (λ (m : Meter). m.ticket_reads) kept ∙ c.draw.ensures.reads ∙ reads },
      subst (λ (m : Meter). CountsReads (the_view i).state.limits.threads i.threads.meter.tree_visits m.tree_visits)
          (sym kept) visits,
    )

pub returns-then-is_bad_processor : goal.returns-then-is_bad_processor
returns-then-is_bad_processor c =
    let s = c.args.self.now.state in
    let is : event_refusal s (event.Draw c.args.processor.number c.args.d) ≡ Some BadProcessor =
    rw (← c.if-is_bad_processor.ensures) refl in
    record { reply = refused-event-reply s (event.Draw c.args.processor.number c.args.d) BadProcessor is; state = refused-event-state s (event.Draw c.args.processor.number c.args.d) BadProcessor is; stale = λ x old. inl old; counts = record { kept = λ x old. old; meter = refl } }

pub returns-then-is_some : goal.returns-then-is_some
returns-then-is_some c =
    let s = c.args.self.now.state in
    let busy = busy-on c.runner.result (λ (r : Runner). r.thread.number) (thread_on c.self.inside.threads.records
    c.args.processor.number) c.runner.ensures.thread ∙ sym c.if-is_some.ensures in
    let on : is_some (thread_on s.records c.args.processor.number) ≡ true =
    ap (λ (x : Snapshot). is_some (thread_on x.state.records c.args.processor.number)) (sym c.self.view_is) ∙ busy in
    let is : event_refusal s (event.Draw c.args.processor.number c.args.d) ≡ Some Busy =
    rw (← c.if-is_bad_processor.ensures, on) refl in
    record { reply = refused-event-reply s (event.Draw c.args.processor.number c.args.d) Busy is; state = refused-event-state s (event.Draw c.args.processor.number c.args.d) Busy is; stale = λ x old. inl old; counts = record { kept = λ x old. old; meter = refl } }

pub returns-in_default-clause-stale : goal.returns-in_default-clause-stale
returns-in_default-clause-stale c x stale = absurd (contains-nothing x
    (subst (λ (nodes : List Node). Contains nodes x) (ap (λ (v : Threaded). v.stale) c.draw.ensures.settled) stale))

pub invariant_of-self : goal.invariant_of-self
invariant_of-self c =
    let i = c.self.inside in
    let is = c.draw.ensures.settled in
    keeps-threads i c.self.invariant c.draw.new.self (held-stale (sizes_of i.limits) (freed_in i.freed)
    i.currencies.items i.threads c.draw.new.self i.queues c.self.invariant.threads [] c.draw.new.self.meter is)
    (ap (λ (v : Threaded). length v.records) is) (ap (λ (v : Threaded). v.threads) is)

pub invariant_of-self-2 : goal.invariant_of-self-2
invariant_of-self-2 c =
    let i = c.self.inside in
    let is = c.draw.ensures.settled in
    let then_is = c.start-delivered.ensures.started in
    let drawn = held-stale (sizes_of i.limits) (freed_in i.freed) i.currencies.items i.threads c.draw.new.self i.queues
    c.self.invariant.threads [] c.draw.new.self.meter is in
    keeps-threads i c.self.invariant c.start-delivered.new.self (held-records (sizes_of i.limits)
    (freed_in i.freed) i.currencies.items c.draw.new.self c.start-delivered.new.self i.queues drawn _ then_is)
    (ap (λ (v : Threaded). length v.records) then_is ∙ change-count _ c.draw.new.self.records c.in-Some.winner.thread
    ∙ ap (λ (v : Threaded). length v.records) is)
    (ap (λ (v : Threaded). v.threads) then_is ∙ ap (λ (v : Threaded). v.threads) is)
