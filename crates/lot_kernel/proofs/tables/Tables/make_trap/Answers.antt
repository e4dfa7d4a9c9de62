use Rattle.lot_kernel.proofs.Lemmas.{Action, CanLend, IsBetween, IsInOrder, Record, Running, RunsAlone, RunsOn, Sizes, Snapshot, State, StopsIfLeaves, ap, at_number, effect-leaves, effect-limits, effect-runs, effect_of, ends_quantum, finished-reply, finished-state, funding_of, holders, lend_of, lends-there, length, makes-trap, may-leave, option_map, record-of, refl, status_of, subst, sym, trap-then, ℕ, ◌∙◌, ◌≡◌}
use Rattle.lot_kernel.proofs.tables.Tables.make_trap.Goals as goal

-- the thread's record is as it was before the trap
left-alone : (s : State) (order : IsInOrder s) (t p : ℕ) (action : Action) → RunsOn s.records t p
    → at_number (effect_of s t action).state.records t ≡ at_number s.records t
left-alone s order t p action (used, runs) = effect-leaves s t p used action runs order.queues

pub finish-requires-clause-processor : goal.finish-requires-clause-processor
finish-requires-clause-processor c =
    let s = c.args.self.now.state in
    let limits = ap (λ (x : State). x.limits) c.act-effect.ensures.state
    ∙ effect-limits s c.args.trap.thread.number c.args.action.now in
    subst (λ (l : Sizes). IsBetween 1 l.processors c.args.trap.processor.number) (sym limits) c.requires.processor

pub finish-requires-clause-runs : goal.finish-requires-clause-runs
finish-requires-clause-runs c =
    let s = c.args.self.now.state in
    let t = c.args.trap.thread.number in
    let left = left-alone s c.requires.order t c.args.trap.processor.number c.args.action.now c.requires.runs in
    (c.requires.runs.0, ap (λ (x : State). status_of x.records t) c.act-effect.ensures.state ∙ ap (option_map (λ (r : Record). r.status)) left ∙ c.requires.runs.1)

pub finish-requires-clause-alone : goal.finish-requires-clause-alone
finish-requires-clause-alone c =
    let s = c.args.self.now.state in
    let t = c.args.trap.thread.number in
    let p = c.args.trap.processor.number in
    subst (λ (x : State). RunsAlone x.records p t) (sym c.act-effect.ensures.state)
    (effect-runs s t p c.requires.runs.0 c.args.action.now c.requires.order c.requires.runs.1).1

pub finish-requires-clause-stops : goal.finish-requires-clause-stops
finish-requires-clause-stops c =
    let s = c.args.self.now.state in
    let t = c.args.trap.thread.number in
    let p = c.args.trap.processor.number in
    subst StopsIfLeaves (sym c.act-effect.ensures.after)
    (effect-runs s t p c.requires.runs.0 c.args.action.now c.requires.order c.requires.runs.1).2

pub finish-requires-clause-lend : goal.finish-requires-clause-lend
finish-requires-clause-lend c status leaves =
    let s = c.args.self.now.state in
    let t = c.args.trap.thread.number in
    let p = c.args.trap.processor.number in
    let used = c.requires.runs.0 in
    let runs = c.requires.runs.1 in
    let left = left-alone s c.requires.order t p c.args.action.now c.requires.runs in
    let leaving = sym c.act-effect.ensures.after ∙ leaves in
    let many : length s.mutexes ≡ holders s.limits = subst (λ (x : Snapshot). length x.state.mutexes
    ≡ holders x.state.limits) c.self.view_is c.self.invariant.holders.mutexes in
    subst (λ (x : State). CanLend (funding_of x) t (lend_of x.limits status)) (sym c.act-effect.ensures.state)
    (may-leave s (effect_of s t c.args.action.now).state t p used c.args.trap.ticks c.args.trap.used c.args.action.now
    c.requires.order runs c.requires.ticks.0 c.requires.ticks.1 refl
    (ap (option_map (λ (r : Record). r.status)) left ∙ runs) status leaving
    (lends-there s t p used c.requires.order runs many c.args.action.now status leaving))

pub returns-clause-reply : goal.returns-clause-reply
returns-clause-reply c =
    let s = c.args.self.now.state in
    let trap = c.args.trap in
    let quantum : c.self.inside.limits.quantum ≡ s.limits.quantum =
    ap (λ (v : Snapshot). v.state.limits.quantum) c.self.view_is in
    finished-reply s trap.processor.number trap.thread.number trap.ticks trap.used (effect_of s trap.thread.number
    c.args.action.now) c.act-effect.result.outcome c.act-effect.result.after c.ends_quantum.result
    c.act-effect.ensures.outcome c.act-effect.ensures.after
    (c.ends_quantum.ensures ∙ ap (ends_quantum c.act-effect.result.after trap.used) quantum)

pub returns-clause-state : goal.returns-clause-state
returns-clause-state c =
    let s = c.args.self.now.state in
    let trap = c.args.trap in
    let effect = effect_of s trap.thread.number c.args.action.now in
    let mid = c.act-effect.new.self.state in
    c.finish.ensures.state
    ∙ finished-state s mid trap.processor.number trap.thread.number trap.ticks trap.used effect
    c.act-effect.result.after c.act-effect.ensures.state
    (ap (λ (x : State). x.limits) c.act-effect.ensures.state
    ∙ effect-limits s trap.thread.number c.args.action.now) c.act-effect.ensures.after

pub returns-clause-stale : goal.returns-clause-stale
returns-clause-stale c =
    let s = c.args.self.now.state in
    let trap = c.args.trap in
    let left =
    left-alone s c.requires.order trap.thread.number trap.processor.number c.args.action.now c.requires.runs in
    let was =
    record-of s.records trap.thread.number (Running trap.processor.number c.requires.runs.0) c.requires.runs.1 in
    let lending = ap (λ (x : State). x.limits) c.act-effect.ensures.state
    ∙ effect-limits s trap.thread.number c.args.action.now in
    makes-trap c.args.self.now c.act-effect.new.self c.finish.new.self lending trap.thread.number _ was.0 was.1
    (ap (λ (x : State). at_number x.records trap.thread.number) c.act-effect.ensures.state ∙ left
    ∙ was.1) c.finish.ensures.state c.act-effect.ensures.stale c.finish.ensures.stale

pub returns-clause-counts : goal.returns-clause-counts
returns-clause-counts c ran = trap-then c.args.self.now c.act-effect.new.self c.finish.new.self c.finish.ensures.kept
    c.finish.ensures.meter c.args.action.now c.act-effect.result.outcome c.act-effect.ensures.counts
