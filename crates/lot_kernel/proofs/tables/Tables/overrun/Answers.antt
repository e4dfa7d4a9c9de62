use Rattle.lot_kernel.proofs.Lemmas.{BadProcessor, BadTicks, None, NotRunning, Snapshot, Some, Step, Threaded, ap, arith, compensation_for, event_refusal, inl, over-overrun, overruns, refl, refused-event-reply, refused-event-state, stopped, subst, sym, thread_on, used_by, ◌+◌, ◌-◌, ◌<◌, ◌^◌, ◌∙◌, ◌≡◌}
use Rattle.lot_machine.specs.declared.event.Event.TheVariants as event
use Rattle.lot_kernel.proofs.tables.Tables.overrun.Goals as goal

pub returns-then-is_bad_processor : goal.returns-then-is_bad_processor
returns-then-is_bad_processor c =
    let s = c.args.self.now.state in
    let is : event_refusal s (event.Overrun c.args.processor.number c.args.late) ≡ Some BadProcessor =
    rw (← c.if-is_bad_processor.ensures) refl in
    record { reply = refused-event-reply s (event.Overrun c.args.processor.number c.args.late) BadProcessor is; state = refused-event-state s (event.Overrun c.args.processor.number c.args.late) BadProcessor is; stale = λ x old. inl old; kept = λ x old. old; meter = refl }

pub returns-in_default : goal.returns-in_default
returns-in_default c =
    let s = c.args.self.now.state in
    let on : thread_on s.records c.args.processor.number ≡ None = ap (λ (x : Snapshot).
    thread_on x.state.records c.args.processor.number) (sym c.self.view_is) ∙ c.in_default.ensures.thread in
    let is : event_refusal s (event.Overrun c.args.processor.number c.args.late) ≡ Some NotRunning =
    rw (← c.if-is_bad_processor.ensures, on) refl in
    record { reply = refused-event-reply s (event.Overrun c.args.processor.number c.args.late) NotRunning is; state = refused-event-state s (event.Overrun c.args.processor.number c.args.late) NotRunning is; stale = λ x old. inl old; kept = λ x old. old; meter = refl }

pub returns-clause-stale : goal.returns-clause-stale
returns-clause-stale c = c.stop.ensures.stale

pub returns-clause-kept : goal.returns-clause-kept
returns-clause-kept c = c.stop.ensures.kept

pub returns-clause-meter : goal.returns-clause-meter
returns-clause-meter c = c.stop.ensures.meter

pub returns-clause-reply : goal.returns-clause-reply
returns-clause-reply c =
    let s = c.args.self.now.state in
    let runner = c.in-Some.runner in
    let on = ap (λ (x : Snapshot). thread_on x.state.records c.args.processor.number) (sym c.self.view_is)
    ∙ c.in-Some.ensures.thread in
    let used = ap (λ (x : Snapshot). used_by x.state.records c.args.processor.number runner.thread.number)
    (sym c.self.view_is) ∙ c.in-Some.ensures.used in
    let quantum = ap (λ (x : Snapshot). x.state.limits.quantum) c.self.view_is in
    let late = c.args.late in
    let used_is : c.in-Some-checked_add.used ≡ s.limits.quantum + late = c.in-Some-checked_add.ensures.1
    ∙ ap (λ n. n + late) quantum in
    let ticks : c.in-Some-checked_add.used - runner.used ≡ s.limits.quantum - runner.used + late = omega
    (arith, used_is, quantum, c.in-Some.ensures.below, ap (λ (v : Threaded). v.quantum) c.self.invariant.threads) in
    let compensation : c.compensation_for-compensation.result ≡ compensation_for s.limits (s.limits.quantum + late) =
    c.compensation_for-compensation.ensures
    ∙ ap (λ (x : Snapshot). compensation_for x.state.limits c.in-Some-checked_add.used) c.self.view_is
    ∙ ap (compensation_for s.limits) used_is in
    c.stop.ensures.reply ∙ ap (λ n. (stopped s runner.thread.number n c.compensation_for-compensation.result).reply)
    ticks ∙ ap (λ o. (stopped s runner.thread.number (s.limits.quantum - runner.used + late) o).reply) compensation
    ∙ sym (ap (λ (x : Step). x.reply) (overruns s c.args.processor.number runner.thread.number runner.used
    (sym c.if-is_bad_processor.ensures) on used late (omega (arith, c.in-Some-checked_add.ensures.0, quantum))))

pub returns-clause-state : goal.returns-clause-state
returns-clause-state c =
    let s = c.args.self.now.state in
    let runner = c.in-Some.runner in
    let on = ap (λ (x : Snapshot). thread_on x.state.records c.args.processor.number) (sym c.self.view_is)
    ∙ c.in-Some.ensures.thread in
    let used = ap (λ (x : Snapshot). used_by x.state.records c.args.processor.number runner.thread.number)
    (sym c.self.view_is) ∙ c.in-Some.ensures.used in
    let quantum = ap (λ (x : Snapshot). x.state.limits.quantum) c.self.view_is in
    let late = c.args.late in
    let used_is : c.in-Some-checked_add.used ≡ s.limits.quantum + late = c.in-Some-checked_add.ensures.1
    ∙ ap (λ n. n + late) quantum in
    let ticks : c.in-Some-checked_add.used - runner.used ≡ s.limits.quantum - runner.used + late = omega
    (arith, used_is, quantum, c.in-Some.ensures.below, ap (λ (v : Threaded). v.quantum) c.self.invariant.threads) in
    let compensation : c.compensation_for-compensation.result ≡ compensation_for s.limits (s.limits.quantum + late) =
    c.compensation_for-compensation.ensures
    ∙ ap (λ (x : Snapshot). compensation_for x.state.limits c.in-Some-checked_add.used) c.self.view_is
    ∙ ap (compensation_for s.limits) used_is in
    c.stop.ensures.state ∙ ap (λ n. (stopped s runner.thread.number n c.compensation_for-compensation.result).state)
    ticks ∙ ap (λ o. (stopped s runner.thread.number (s.limits.quantum - runner.used + late) o).state) compensation
    ∙ sym (ap (λ (x : Step). x.state) (overruns s c.args.processor.number runner.thread.number runner.used
    (sym c.if-is_bad_processor.ensures) on used late (omega (arith, c.in-Some-checked_add.ensures.0, quantum))))

pub returns-in_default-checked_add : goal.returns-in_default-checked_add
returns-in_default-checked_add c =
    let s = c.args.self.now.state in
    let runner = c.in-Some.runner in
    let on = ap (λ (x : Snapshot). thread_on x.state.records c.args.processor.number) (sym c.self.view_is)
    ∙ c.in-Some.ensures.thread in
    let used = ap (λ (x : Snapshot). used_by x.state.records c.args.processor.number runner.thread.number)
    (sym c.self.view_is) ∙ c.in-Some.ensures.used in
    let over = subst (λ n. n + c.args.late < 2 ^ 32 → ⊥)
    (ap (λ (x : Snapshot). x.state.limits.quantum) c.self.view_is) c.in_default-checked_add.ensures in
    let is = over-overrun s c.args.processor.number runner.thread.number runner.used
    (sym c.if-is_bad_processor.ensures) on used c.args.late over in
    record { reply = refused-event-reply s (event.Overrun c.args.processor.number c.args.late) BadTicks is; state = refused-event-state s (event.Overrun c.args.processor.number c.args.late) BadTicks is; stale = λ x old. inl old; kept = λ x old. old; meter = refl }
