use Rattle.lot_kernel.proofs.Lemmas.{HasNoCycle, IfSome, IsLive, List, NoPort, Outcome, QueueLists, Record, State, Threaded, ap, arith, call, call-done, call-idle, call-keeps, call-takes, freed_in, funding_of, keeps-both, length, live_in, not, port-leaves, ports-state, refl, refused-shows, runner-nowhere, running-there, served-shows, sizes_of, subst, sym, taker, the_view, untied-still, ◌∙◌}
use Rattle.lot_machine.specs.declared.trap.Trap.TheVariants as action
use Rattle.lot_kernel.proofs.tables.Tables.call.Goals as goal

pub call-effect-requires-clause-nowhere : goal.call-effect-requires-clause-nowhere
call-effect-requires-clause-nowhere c = let i = c.self.inside in
    runner-nowhere (sizes_of i.limits) (freed_in i.freed) i.currencies.items i.threads i.queues c.args.self.now
    c.args.thread.number c.self.view_is c.requires.order c.requires.runs

pub call-effect-requires-clause-port : goal.call-effect-requires-clause-port
call-effect-requires-clause-port c = rw (← c.self.view_is) at (c.has_port.ensures.there c.if-not-has_port.false)

pub call-effect-requires-clause-same : goal.call-effect-requires-clause-same
call-effect-requires-clause-same c = sym c.self.invariant.clients

pub invariant_of-self : goal.invariant_of-self
invariant_of-self c =
    let i = c.self.inside in
    let left = port-leaves (sizes_of i.limits) (freed_in i.freed) i.currencies.items i.threads i.queues
    c.call-effect.new.threads c.call-effect.new.queues _ c.self.invariant.threads c.self.invariant.holders
    (call-keeps i.threads.records i.queues.clients i.queues.ports c.args.thread.number c.args.port.number c.args.number)
    c.call-effect.ensures.threads c.call-effect.ensures.queues in
    keeps-both i c.self.invariant c.call-effect.new.threads c.call-effect.new.queues left.0 left.1
    (ap (λ (v : Threaded). v.threads) c.call-effect.ensures.threads) left.2
    (ap (λ (q : QueueLists). q.room) c.call-effect.ensures.queues) left.3

pub note_server-requires-clause-port : goal.note_server-requires-clause-port
note_server-requires-clause-port c =
    let i = c.self.inside in
    let there = rw (← c.self.view_is) at (c.has_port.ensures.there c.if-not-has_port.false) in
    let keeps = call-keeps i.threads.records i.queues.clients i.queues.ports c.args.thread.number c.args.port.number
    c.args.number in
    (there.0, omega (arith, there.1, keeps.ports, ap (λ (q : QueueLists). length q.ports) c.call-effect.ensures.queues))

pub note_server-requires-clause-thread : goal.note_server-requires-clause-thread
note_server-requires-clause-thread c =
    let i = c.self.inside in
    let there = running-there i.threads.records c.args.thread.number (rw (← c.self.view_is) at c.requires.runs) in
    let keeps = call-keeps i.threads.records i.queues.clients i.queues.ports c.args.thread.number c.args.port.number
    c.args.number in
    (there.0, omega (arith, there.1, keeps.records, ap (λ (v : Threaded). length v.records) c.call-effect.ensures.threads))

pub note_server-requires-clause-live : goal.note_server-requires-clause-live
note_server-requires-clause-live c =
    let i = c.self.inside in
    let t = c.args.thread.number in
    let order = rw (← c.self.view_is) at c.requires.order in
    let runs = rw (← c.self.view_is) at c.requires.runs in
    let trap =
    call i.threads.records i.queues.clients i.queues.ports c.args.thread.number c.args.port.number c.args.number in
    let takes : IfSome (taker t trap.outcome) (IsLive (live_in trap.records)) =
    call-takes (the_view i).state t order runs c.args.port.number c.args.number in
    subst (λ (o : Outcome). IfSome (taker t o) (IsLive (live_in c.call-effect.new.threads.records)))
    (sym c.call-effect.ensures.outcome)
    (subst (λ (rs : List Record). IfSome (taker t trap.outcome) (IsLive (live_in rs)))
    (sym (ap (λ (v : Threaded). v.records) c.call-effect.ensures.threads)) takes)

pub note_server-requires-clause-no_cycle : goal.note_server-requires-clause-no_cycle
note_server-requires-clause-no_cycle c queued =
    let i = c.self.inside in
    let order = rw (← c.self.view_is) at c.requires.order in
    let runs = rw (← c.self.view_is) at c.requires.runs in
    let trap =
    call i.threads.records i.queues.clients i.queues.ports c.args.thread.number c.args.port.number c.args.number in
    let idle = call-idle i.threads.records i.queues.clients i.queues.ports c.args.thread.number c.args.port.number
    c.args.number (sym c.call-effect.ensures.outcome ∙ queued) in
    let state =
    ports-state (sizes_of i.limits) (freed_in i.freed) i.currencies.items i.threads c.call-effect.new.threads i.queues
    c.call-effect.new.queues c.self.invariant.threads trap c.call-effect.ensures.threads c.call-effect.ensures.queues in
    subst (λ (s : State). HasNoCycle (funding_of s)) (sym state)
    (untied-still (the_view i).state c.args.thread.number order runs trap idle)

pub returns : goal.returns
returns c =
    let i = c.self.inside in
    let shown = served-shows (sizes_of i.limits) (freed_in i.freed) i.currencies.items i.threads i.queues
    c.call-effect.new.threads c.call-effect.new.queues (call i.threads.records i.queues.clients i.queues.ports
    c.args.thread.number c.args.port.number c.args.number) c.note_server.new.self _ c.call-effect.result.outcome
    c.call-effect.result.after c.args.thread.number c.args.port.number c.self.invariant.threads
    (call-done (the_view i).state c.args.thread.number c.args.port.number c.args.number (rw (← c.self.view_is) at
    (c.has_port.ensures.there c.if-not-has_port.false))) c.call-effect.ensures.outcome c.call-effect.ensures.after
    c.call-effect.ensures.threads c.call-effect.ensures.queues c.call-effect.ensures.stale c.call-effect.ensures.kept
    (λ e.
    call-idle i.threads.records i.queues.clients i.queues.ports c.args.thread.number c.args.port.number c.args.number e)
    c.note_server.ensures.state c.note_server.ensures.stale c.note_server.ensures.kept c.note_server.ensures.meter in
    rw (← c.self.view_is)
    (record { outcome = shown.outcome; after = shown.after; state = shown.state; stale = shown.stale; kept = shown.kept; meter = shown.meter })

pub returns-then-not-has_port : goal.returns-then-not-has_port
returns-then-not-has_port c =
    let missing = c.has_port.ensures.missing ∙ ap not c.if-not-has_port.true in
    let shown = refused-shows c.args.self.now c.args.thread.number
    (action.Call c.args.port.number c.args.number) NoPort c.refused.result.outcome c.refused.result.after
    (rw missing refl) c.refused.ensures.outcome c.refused.ensures.after in
    record { outcome = shown.outcome; after = shown.after; state = shown.state; stale = shown.stale; kept = shown.kept; meter = shown.meter }
