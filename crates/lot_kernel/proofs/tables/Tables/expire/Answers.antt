use Rattle.lot_kernel.proofs.Lemmas.{BadProcessor, None, NotRunning, Snapshot, Some, Step, ap, event_refusal, expires, inl, refl, refused-event-reply, refused-event-state, stopped, sym, thread_on, used_by, ◌-◌, ◌∙◌, ◌≡◌}
use Rattle.lot_machine.specs.declared.event.Event.TheVariants as event
use Rattle.lot_kernel.proofs.tables.Tables.expire.Goals as goal

pub returns-then-is_bad_processor : goal.returns-then-is_bad_processor
returns-then-is_bad_processor c =
    let s = c.args.self.now.state in
    let is : event_refusal s (event.Expire c.args.processor.number) ≡ Some BadProcessor =
    rw (← c.if-is_bad_processor.ensures) refl in
    record { reply = refused-event-reply s (event.Expire c.args.processor.number) BadProcessor is; state = refused-event-state s (event.Expire c.args.processor.number) BadProcessor is; stale = λ x old. inl old; kept = λ x old. old; meter = refl }

pub returns-in_default : goal.returns-in_default
returns-in_default c =
    let s = c.args.self.now.state in
    let on : thread_on s.records c.args.processor.number ≡ None = ap (λ (x : Snapshot).
    thread_on x.state.records c.args.processor.number) (sym c.self.view_is) ∙ c.in_default.ensures.thread in
    let is : event_refusal s (event.Expire c.args.processor.number) ≡ Some NotRunning =
    rw (← c.if-is_bad_processor.ensures, on) refl in
    record { reply = refused-event-reply s (event.Expire c.args.processor.number) NotRunning is; state = refused-event-state s (event.Expire c.args.processor.number) NotRunning is; stale = λ x old. inl old; kept = λ x old. old; meter = refl }

pub returns-clause-reply : goal.returns-clause-reply
returns-clause-reply c =
    let s = c.args.self.now.state in
    let runner = c.in-Some.runner in
    let on = ap (λ (x : Snapshot). thread_on x.state.records c.args.processor.number) (sym c.self.view_is)
    ∙ c.in-Some.ensures.thread in
    let used = ap (λ (x : Snapshot). used_by x.state.records c.args.processor.number runner.thread.number)
    (sym c.self.view_is) ∙ c.in-Some.ensures.used in
    let quantum = ap (λ (x : Snapshot). x.state.limits.quantum) c.self.view_is in
    c.stop.ensures.reply ∙ sym (ap (λ (x : Step). x.reply)
    (expires s c.args.processor.number runner.thread.number runner.used (sym c.if-is_bad_processor.ensures) on used
    ∙ ap (λ n. stopped s runner.thread.number (n - runner.used) None) (sym quantum)))

pub returns-clause-state : goal.returns-clause-state
returns-clause-state c =
    let s = c.args.self.now.state in
    let runner = c.in-Some.runner in
    let on = ap (λ (x : Snapshot). thread_on x.state.records c.args.processor.number) (sym c.self.view_is)
    ∙ c.in-Some.ensures.thread in
    let used = ap (λ (x : Snapshot). used_by x.state.records c.args.processor.number runner.thread.number)
    (sym c.self.view_is) ∙ c.in-Some.ensures.used in
    let quantum = ap (λ (x : Snapshot). x.state.limits.quantum) c.self.view_is in
    c.stop.ensures.state ∙ sym (ap (λ (x : Step). x.state)
    (expires s c.args.processor.number runner.thread.number runner.used (sym c.if-is_bad_processor.ensures) on used
    ∙ ap (λ n. stopped s runner.thread.number (n - runner.used) None) (sym quantum)))

pub returns-clause-stale : goal.returns-clause-stale
returns-clause-stale c = c.stop.ensures.stale

pub returns-clause-kept : goal.returns-clause-kept
returns-clause-kept c = c.stop.ensures.kept

pub returns-clause-meter : goal.returns-clause-meter
returns-clause-meter c = c.stop.ensures.meter
