use Rattle.lot_kernel.proofs.Lemmas.{BadProcessor, BadTicks, None, NotRunning, Snapshot, Some, Step, ap, arith, event_refusal, inl, over-trapped, refl, refused-event-reply, refused-event-state, sym, thread_on, traps, used_by, ◌∙◌, ◌≡◌}
use Rattle.lot_machine.specs.declared.event.Event.TheVariants as event
use Rattle.lot_kernel.proofs.tables.Tables.trap.Goals as goal

pub returns-then-is_bad_processor : goal.returns-then-is_bad_processor
returns-then-is_bad_processor c =
    let s = c.args.self.now.state in
    let is : event_refusal s (event.Trap c.args.processor.number c.args.ran c.args.action.now) ≡ Some BadProcessor =
    rw (← c.if-is_bad_processor.ensures) refl in
    record { reply = refused-event-reply s (event.Trap c.args.processor.number c.args.ran c.args.action.now) BadProcessor is; state = refused-event-state s (event.Trap c.args.processor.number c.args.ran c.args.action.now) BadProcessor is; stale = λ x old. inl old; counts = record { kept = λ x old. old; meter = refl } }

pub returns-in_default : goal.returns-in_default
returns-in_default c =
    let s = c.args.self.now.state in
    let on : thread_on s.records c.args.processor.number ≡ None = ap (λ (x : Snapshot).
    thread_on x.state.records c.args.processor.number) (sym c.self.view_is) ∙ c.in_default.ensures.thread in
    let is : event_refusal s (event.Trap c.args.processor.number c.args.ran c.args.action.now) ≡ Some NotRunning =
    rw (← c.if-is_bad_processor.ensures, on) refl in
    record { reply = refused-event-reply s (event.Trap c.args.processor.number c.args.ran c.args.action.now) NotRunning is; state = refused-event-state s (event.Trap c.args.processor.number c.args.ran c.args.action.now) NotRunning is; stale = λ x old. inl old; counts = record { kept = λ x old. old; meter = refl } }

pub returns-clause-reply : goal.returns-clause-reply
returns-clause-reply c =
    let s = c.args.self.now.state in
    let runner = c.in-Some.runner in
    let on = ap (λ (x : Snapshot). thread_on x.state.records c.args.processor.number) (sym c.self.view_is)
    ∙ c.in-Some.ensures.thread in
    let used = ap (λ (x : Snapshot). used_by x.state.records c.args.processor.number runner.thread.number)
    (sym c.self.view_is) ∙ c.in-Some.ensures.used in
    let quantum = ap (λ (x : Snapshot). x.state.limits.quantum) c.self.view_is in
    c.make_trap.ensures.reply ∙ sym (ap (λ (x : Step). x.reply) (traps s c.args.processor.number runner.thread.number
    runner.used (sym c.if-is_bad_processor.ensures) on used c.args.ran c.args.action.now
    (omega (arith, quantum, c.if-from.false, c.from.ensures, c.from-2.ensures, c.from-3.ensures))))

pub returns-clause-state : goal.returns-clause-state
returns-clause-state c =
    let s = c.args.self.now.state in
    let runner = c.in-Some.runner in
    let on = ap (λ (x : Snapshot). thread_on x.state.records c.args.processor.number) (sym c.self.view_is)
    ∙ c.in-Some.ensures.thread in
    let used = ap (λ (x : Snapshot). used_by x.state.records c.args.processor.number runner.thread.number)
    (sym c.self.view_is) ∙ c.in-Some.ensures.used in
    let quantum = ap (λ (x : Snapshot). x.state.limits.quantum) c.self.view_is in
    c.make_trap.ensures.state ∙ sym (ap (λ (x : Step). x.state) (traps s c.args.processor.number runner.thread.number
    runner.used (sym c.if-is_bad_processor.ensures) on used c.args.ran c.args.action.now
    (omega (arith, quantum, c.if-from.false, c.from.ensures, c.from-2.ensures, c.from-3.ensures))))

pub returns-then-from : goal.returns-then-from
returns-then-from c =
    let s = c.args.self.now.state in
    let runner = c.in-Some.runner in
    let on = ap (λ (x : Snapshot). thread_on x.state.records c.args.processor.number) (sym c.self.view_is)
    ∙ c.in-Some.ensures.thread in
    let used = ap (λ (x : Snapshot). used_by x.state.records c.args.processor.number runner.thread.number)
    (sym c.self.view_is) ∙ c.in-Some.ensures.used in
    let quantum = ap (λ (x : Snapshot). x.state.limits.quantum) c.self.view_is in
    let is = over-trapped s c.args.processor.number runner.thread.number runner.used
    (sym c.if-is_bad_processor.ensures) on used c.args.ran c.args.action.now
    (omega (arith, quantum, c.if-from.true, c.from.ensures, c.from-2.ensures, c.from-3.ensures)) in
    record { reply = refused-event-reply s (event.Trap c.args.processor.number c.args.ran c.args.action.now) BadTicks is; state = refused-event-state s (event.Trap c.args.processor.number c.args.ran c.args.action.now) BadTicks is; stale = λ x old. inl old; counts = record { kept = λ x old. old; meter = refl } }

pub returns-clause-stale : goal.returns-clause-stale
returns-clause-stale c = c.make_trap.ensures.stale
