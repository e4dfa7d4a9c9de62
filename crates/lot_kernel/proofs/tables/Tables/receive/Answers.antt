use Rattle.lot_kernel.proofs.Lemmas.{IfSome, IsLive, List, NoPort, Outcome, QueueLists, Record, Running, Threaded, ap, arith, freed_in, keeps-both, length, live-status, live_in, not, port-leaves, receive, receive-done, receive-keeps, receive-queues, receive-takes, refl, refused-shows, runner-nowhere, running-there, runs-still, served-shows, sizes_of, subst, sym, taker, the_view, ◌∙◌}
use Rattle.lot_machine.specs.declared.trap.Trap.TheVariants as action
use Rattle.lot_kernel.proofs.tables.Tables.receive.Goals as goal

pub receive-effect-requires-clause-nowhere : goal.receive-effect-requires-clause-nowhere
receive-effect-requires-clause-nowhere c = let i = c.self.inside in
    runner-nowhere (sizes_of i.limits) (freed_in i.freed) i.currencies.items i.threads i.queues c.args.self.now
    c.args.thread.number c.self.view_is c.requires.order c.requires.runs

pub receive-effect-requires-clause-port : goal.receive-effect-requires-clause-port
receive-effect-requires-clause-port c = rw (← c.self.view_is) at (c.has_port.ensures.there c.if-not-has_port.false)

pub receive-effect-requires-clause-same : goal.receive-effect-requires-clause-same
receive-effect-requires-clause-same c = sym c.self.invariant.clients

pub receive-effect-requires-clause-server : goal.receive-effect-requires-clause-server
receive-effect-requires-clause-server c = let runs = rw (← c.self.view_is) at c.requires.runs in
    live-status c.self.inside.threads.records c.args.thread.number (Running runs.0 runs.1.0) runs.1.1 refl

pub invariant_of-self : goal.invariant_of-self
invariant_of-self c =
    let i = c.self.inside in
    let left = port-leaves (sizes_of i.limits) (freed_in i.freed) i.currencies.items i.threads i.queues
    c.receive-effect.new.threads c.receive-effect.new.queues _ c.self.invariant.threads c.self.invariant.holders
    (receive-keeps i.threads.records i.queues.clients i.queues.ports c.args.thread.number c.args.port.number)
    c.receive-effect.ensures.threads c.receive-effect.ensures.queues in
    keeps-both i c.self.invariant c.receive-effect.new.threads c.receive-effect.new.queues left.0 left.1
    (ap (λ (v : Threaded). v.threads) c.receive-effect.ensures.threads) left.2
    (ap (λ (q : QueueLists). q.room) c.receive-effect.ensures.queues) left.3

pub note_server-requires-clause-port : goal.note_server-requires-clause-port
note_server-requires-clause-port c =
    let i = c.self.inside in
    let there = rw (← c.self.view_is) at (c.has_port.ensures.there c.if-not-has_port.false) in
    let keeps =
    receive-keeps i.threads.records i.queues.clients i.queues.ports c.args.thread.number c.args.port.number in
    (there.0, omega (arith, there.1, keeps.ports, ap (λ (q : QueueLists). length q.ports) c.receive-effect.ensures.queues))

pub note_server-requires-clause-thread : goal.note_server-requires-clause-thread
note_server-requires-clause-thread c =
    let i = c.self.inside in
    let there = running-there i.threads.records c.args.thread.number (rw (← c.self.view_is) at c.requires.runs) in
    let keeps =
    receive-keeps i.threads.records i.queues.clients i.queues.ports c.args.thread.number c.args.port.number in
    (there.0, omega (arith, there.1, keeps.records, ap (λ (v : Threaded). length v.records) c.receive-effect.ensures.threads))

pub note_server-requires-clause-live : goal.note_server-requires-clause-live
note_server-requires-clause-live c =
    let i = c.self.inside in
    let t = c.args.thread.number in
    let order = rw (← c.self.view_is) at c.requires.order in
    let runs = rw (← c.self.view_is) at c.requires.runs in
    let trap = receive i.threads.records i.queues.clients i.queues.ports c.args.thread.number c.args.port.number in
    let takes : IfSome (taker t trap.outcome) (IsLive (live_in trap.records)) = let done = receive-done (the_view
    i).state t c.args.port.number (rw (← c.self.view_is) at (c.has_port.ensures.there c.if-not-has_port.false)) in
    receive-takes i.threads.records i.queues.clients i.queues.ports t c.args.port.number (IsLive (live_in trap.records))
    (runs-still (the_view i).state t order runs c.args.port.number (action.Receive c.args.port.number) trap done) in
    subst (λ (o : Outcome). IfSome (taker t o) (IsLive (live_in c.receive-effect.new.threads.records)))
    (sym c.receive-effect.ensures.outcome)
    (subst (λ (rs : List Record). IfSome (taker t trap.outcome) (IsLive (live_in rs)))
    (sym (ap (λ (v : Threaded). v.records) c.receive-effect.ensures.threads)) takes)

pub note_server-requires-clause-no_cycle : goal.note_server-requires-clause-no_cycle
note_server-requires-clause-no_cycle c queued = let i = c.self.inside in
    receive-queues i.threads.records i.queues.clients i.queues.ports c.args.thread.number c.args.port.number
    (sym c.receive-effect.ensures.outcome ∙ queued)

pub returns : goal.returns
returns c =
    let i = c.self.inside in
    let shown = served-shows (sizes_of i.limits) (freed_in i.freed) i.currencies.items i.threads i.queues
    c.receive-effect.new.threads c.receive-effect.new.queues (receive i.threads.records i.queues.clients i.queues.ports
    c.args.thread.number c.args.port.number) c.note_server.new.self _ c.receive-effect.result.outcome
    c.receive-effect.result.after c.args.thread.number c.args.port.number c.self.invariant.threads
    (receive-done (the_view i).state c.args.thread.number c.args.port.number
    (rw (← c.self.view_is) at (c.has_port.ensures.there c.if-not-has_port.false))) c.receive-effect.ensures.outcome
    c.receive-effect.ensures.after c.receive-effect.ensures.threads c.receive-effect.ensures.queues
    c.receive-effect.ensures.stale c.receive-effect.ensures.kept
    (λ e. receive-queues i.threads.records i.queues.clients i.queues.ports c.args.thread.number c.args.port.number e)
    c.note_server.ensures.state c.note_server.ensures.stale c.note_server.ensures.kept c.note_server.ensures.meter in
    rw (← c.self.view_is)
    (record { outcome = shown.outcome; after = shown.after; state = shown.state; stale = shown.stale; kept = shown.kept; meter = shown.meter })

pub returns-then-not-has_port : goal.returns-then-not-has_port
returns-then-not-has_port c =
    let missing = c.has_port.ensures.missing ∙ ap not c.if-not-has_port.true in
    let shown = refused-shows c.args.self.now c.args.thread.number
    (action.Receive c.args.port.number) NoPort c.refused.result.outcome c.refused.result.after
    (rw missing refl) c.refused.ensures.outcome c.refused.ensures.after in
    record { outcome = shown.outcome; after = shown.after; state = shown.state; stale = shown.stale; kept = shown.kept; meter = shown.meter }
