use Rattle.lot_kernel.proofs.Lemmas.{NoThread, None, NotAsleep, Snapshot, Some, Step, Threaded, ap, change-count, event-done, event_refusal, freed_in, held, held-records, inl, is_some, keeps-threads, length, makes-held, missing-of, present-of, refl, refused-event-reply, refused-event-state, sizes_of, sym, thread_at, wake, ◌∙◌, ◌≡◌}
use Rattle.lot_machine.specs.declared.record.Thread.{Thread as AThread}
use Rattle.lot_machine.specs.declared.event.Event.TheVariants as event
use Rattle.lot_kernel.proofs.tables.Tables.wake.Goals as goal

pub returns-clause-stale : goal.returns-clause-stale
returns-clause-stale c =
    let i = c.self.inside in
    let threads = held-records (sizes_of i.limits) (freed_in i.freed) i.currencies.items i.threads c.set_status.new.self
    i.queues c.self.invariant.threads _ c.set_status.ensures.set in
    rw (← c.self.view_is) (makes-held (sizes_of i.limits) (freed_in i.freed) i.currencies.items i.currencies.items
    i.threads c.set_status.new.self i.queues i.queues c.self.invariant.threads threads c.set_status.ensures.stale)

pub returns-then-is_none : goal.returns-then-is_none
returns-then-is_none c =
    let s = c.args.self.now.state in
    let none = missing-of (λ (t : AThread). c.args.thread.number) (thread_at s.threads c.args.thread.number)
    (sym c.if-is_none.ensures ∙ ap is_some c.thread_numbered.ensures.meant) in
    let is : event_refusal s (event.Wake c.args.thread.number) ≡ Some NoThread = rw none refl in
    record { reply = refused-event-reply s (event.Wake c.args.thread.number) NoThread is; state = refused-event-state s (event.Wake c.args.thread.number) NoThread is; stale = λ x old. inl old; kept = λ x old. old; meter = refl }

pub returns-then-not-is_asleep : goal.returns-then-not-is_asleep
returns-then-not-is_asleep c =
    let s = c.args.self.now.state in
    let there = present-of (λ (t : AThread). c.args.thread.number) (thread_at s.threads c.args.thread.number)
    (sym c.if-is_none.ensures ∙ ap is_some c.thread_numbered.ensures.meant) in
    let is : event_refusal s (event.Wake c.args.thread.number) ≡ Some NotAsleep =
    rw (there, ← c.if-not-is_asleep.ensures) refl in
    record { reply = refused-event-reply s (event.Wake c.args.thread.number) NotAsleep is; state = refused-event-state s (event.Wake c.args.thread.number) NotAsleep is; stale = λ x old. inl old; kept = λ x old. old; meter = refl }

pub returns-clause-reply : goal.returns-clause-reply
returns-clause-reply c =
    let s = c.args.self.now.state in
    let there = present-of (λ (t : AThread). c.args.thread.number) (thread_at s.threads c.args.thread.number)
    (sym c.if-is_none.ensures ∙ ap is_some c.thread_numbered.ensures.meant) in
    let is : event_refusal s (event.Wake c.args.thread.number) ≡ None = rw (there, ← c.if-not-is_asleep.ensures) refl in
    sym (ap (λ (x : Step). x.reply) (event-done s (event.Wake c.args.thread.number) is))

pub returns-clause-state : goal.returns-clause-state
returns-clause-state c =
    let s = c.args.self.now.state in
    let there = present-of (λ (t : AThread). c.args.thread.number) (thread_at s.threads c.args.thread.number)
    (sym c.if-is_none.ensures ∙ ap is_some c.thread_numbered.ensures.meant) in
    let is : event_refusal s (event.Wake c.args.thread.number) ≡ None = rw (there, ← c.if-not-is_asleep.ensures) refl in
    let i = c.self.inside in
    ap (λ (v : Threaded). held (sizes_of i.limits) (freed_in i.freed) i.currencies.items v i.queues)
    c.set_status.ensures.set
    ∙ ap (λ (x : Snapshot). (wake x.state c.args.thread.number).state) c.self.view_is
    ∙ sym (ap (λ (x : Step). x.state) (event-done s (event.Wake c.args.thread.number) is))

pub invariant_of-self : goal.invariant_of-self
invariant_of-self c =
    let i = c.self.inside in
    let is = c.set_status.ensures.set in
    keeps-threads i c.self.invariant c.set_status.new.self (held-records (sizes_of i.limits) (freed_in i.freed)
    i.currencies.items i.threads c.set_status.new.self i.queues c.self.invariant.threads _ is) (ap (λ (v : Threaded).
    length v.records) is ∙ change-count _ i.threads.records c.args.thread.number) (ap (λ (v : Threaded). v.threads) is)

pub returns-clause-kept : goal.returns-clause-kept
returns-clause-kept c = rw (← c.self.view_is) c.set_status.ensures.kept

pub returns-clause-meter : goal.returns-clause-meter
returns-clause-meter c = ap (λ (v : Threaded). v.meter) c.set_status.ensures.set
    ∙ ap (λ (x : Snapshot). x.meter) c.self.view_is
