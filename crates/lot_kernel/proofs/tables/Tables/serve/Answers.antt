use Rattle.lot_kernel.proofs.Lemmas.{IfSome, IsLive, List, NoPort, NothingToReply, Outcome, QueueLists, Record, Running, Threaded, ap, arith, freed_in, keeps-both, length, live-status, live_in, not, port-leaves, refl, refused-shows, runner-nowhere, running-there, runs-still, serve, serve-done, serve-keeps, serve-queues, serve-takes, served-shows, sizes_of, subst, sym, taker, the_view, ◌∙◌}
use Rattle.lot_machine.specs.declared.trap.Trap.TheVariants as action
use Rattle.lot_kernel.proofs.tables.Tables.serve.Goals as goal

pub serve-effect-requires-clause-nowhere : goal.serve-effect-requires-clause-nowhere
serve-effect-requires-clause-nowhere c = let i = c.self.inside in
    runner-nowhere (sizes_of i.limits) (freed_in i.freed) i.currencies.items i.threads i.queues c.args.self.now
    c.args.thread.number c.self.view_is c.requires.order c.requires.runs

pub serve-effect-requires-clause-port : goal.serve-effect-requires-clause-port
serve-effect-requires-clause-port c = rw (← c.self.view_is) at (c.has_port.ensures.there c.if-not-has_port.false)

pub serve-effect-requires-clause-same : goal.serve-effect-requires-clause-same
serve-effect-requires-clause-same c = sym c.self.invariant.clients

pub serve-effect-requires-clause-server : goal.serve-effect-requires-clause-server
serve-effect-requires-clause-server c = let runs = rw (← c.self.view_is) at c.requires.runs in
    live-status c.self.inside.threads.records c.args.thread.number (Running runs.0 runs.1.0) runs.1.1 refl

pub serve-effect-requires-clause-client : goal.serve-effect-requires-clause-client
serve-effect-requires-clause-client c = sym c.first_client.ensures ∙ c.in-Some.is

pub invariant_of-self : goal.invariant_of-self
invariant_of-self c =
    let i = c.self.inside in
    let left = port-leaves (sizes_of i.limits) (freed_in i.freed) i.currencies.items i.threads i.queues
    c.serve-effect.new.threads c.serve-effect.new.queues _ c.self.invariant.threads c.self.invariant.holders
    (serve-keeps i.threads.records i.queues.clients i.queues.ports c.args.thread.number c.args.port.number
    c.args.number) c.serve-effect.ensures.threads c.serve-effect.ensures.queues in
    keeps-both i c.self.invariant c.serve-effect.new.threads c.serve-effect.new.queues left.0 left.1
    (ap (λ (v : Threaded). v.threads) c.serve-effect.ensures.threads) left.2
    (ap (λ (q : QueueLists). q.room) c.serve-effect.ensures.queues) left.3

pub note_server-requires-clause-port : goal.note_server-requires-clause-port
note_server-requires-clause-port c =
    let i = c.self.inside in
    let there = rw (← c.self.view_is) at (c.has_port.ensures.there c.if-not-has_port.false) in
    let keeps = serve-keeps i.threads.records i.queues.clients i.queues.ports c.args.thread.number c.args.port.number
    c.args.number in
    (there.0, omega (arith, there.1, keeps.ports, ap (λ (q : QueueLists). length q.ports) c.serve-effect.ensures.queues))

pub note_server-requires-clause-thread : goal.note_server-requires-clause-thread
note_server-requires-clause-thread c =
    let i = c.self.inside in
    let there = running-there i.threads.records c.args.thread.number (rw (← c.self.view_is) at c.requires.runs) in
    let keeps = serve-keeps i.threads.records i.queues.clients i.queues.ports c.args.thread.number c.args.port.number
    c.args.number in
    (there.0, omega (arith, there.1, keeps.records, ap (λ (v : Threaded). length v.records) c.serve-effect.ensures.threads))

pub note_server-requires-clause-live : goal.note_server-requires-clause-live
note_server-requires-clause-live c =
    let i = c.self.inside in
    let t = c.args.thread.number in
    let order = rw (← c.self.view_is) at c.requires.order in
    let runs = rw (← c.self.view_is) at c.requires.runs in
    let trap =
    serve i.threads.records i.queues.clients i.queues.ports c.args.thread.number c.args.port.number c.args.number in
    let takes : IfSome (taker t trap.outcome) (IsLive (live_in trap.records)) = let done =
    serve-done (the_view i).state t c.args.port.number c.in-Some.client c.args.number (rw (← c.self.view_is) at
    (c.has_port.ensures.there c.if-not-has_port.false)) (sym c.in-Some.ensures) in serve-takes i.threads.records
    i.queues.clients i.queues.ports t c.args.port.number c.args.number (IsLive (live_in trap.records)) (runs-still
    (the_view i).state t order runs c.args.port.number (action.Serve c.args.port.number c.args.number) trap done) in
    subst (λ (o : Outcome). IfSome (taker t o) (IsLive (live_in c.serve-effect.new.threads.records)))
    (sym c.serve-effect.ensures.outcome)
    (subst (λ (rs : List Record). IfSome (taker t trap.outcome) (IsLive (live_in rs)))
    (sym (ap (λ (v : Threaded). v.records) c.serve-effect.ensures.threads)) takes)

pub note_server-requires-clause-no_cycle : goal.note_server-requires-clause-no_cycle
note_server-requires-clause-no_cycle c queued = let i = c.self.inside in serve-queues i.threads.records i.queues.clients
    i.queues.ports c.args.thread.number c.args.port.number c.args.number (sym c.serve-effect.ensures.outcome ∙ queued)

pub returns : goal.returns
returns c =
    let i = c.self.inside in
    let shown = served-shows (sizes_of i.limits) (freed_in i.freed) i.currencies.items i.threads i.queues
    c.serve-effect.new.threads c.serve-effect.new.queues (serve i.threads.records i.queues.clients i.queues.ports
    c.args.thread.number c.args.port.number c.args.number) c.note_server.new.self _ c.serve-effect.result.outcome
    c.serve-effect.result.after c.args.thread.number c.args.port.number c.self.invariant.threads
    (serve-done (the_view i).state c.args.thread.number c.args.port.number c.in-Some.client c.args.number
    (rw (← c.self.view_is) at (c.has_port.ensures.there c.if-not-has_port.false)) (sym c.in-Some.ensures))
    c.serve-effect.ensures.outcome c.serve-effect.ensures.after c.serve-effect.ensures.threads
    c.serve-effect.ensures.queues c.serve-effect.ensures.stale c.serve-effect.ensures.kept
    (λ e. serve-queues i.threads.records i.queues.clients i.queues.ports c.args.thread.number c.args.port.number
    c.args.number e) c.note_server.ensures.state c.note_server.ensures.stale c.note_server.ensures.kept
    c.note_server.ensures.meter in
    rw (← c.self.view_is)
    (record { outcome = shown.outcome; after = shown.after; state = shown.state; stale = shown.stale; kept = shown.kept; meter = shown.meter })

pub returns-then-not-has_port : goal.returns-then-not-has_port
returns-then-not-has_port c =
    let missing = c.has_port.ensures.missing ∙ ap not c.if-not-has_port.true in
    let shown = refused-shows c.args.self.now c.args.thread.number
    (action.Serve c.args.port.number c.args.number) NoPort c.refused.result.outcome c.refused.result.after
    (rw missing refl) c.refused.ensures.outcome c.refused.ensures.after in
    record { outcome = shown.outcome; after = shown.after; state = shown.state; stale = shown.stale; kept = shown.kept; meter = shown.meter }

pub returns-in_default : goal.returns-in_default
returns-in_default c =
    let none = c.has_port.ensures.missing ∙ ap not c.if-not-has_port.false in
    let nobody = sym c.in_default.ensures in
    let old = the_view c.self.inside in
    let shown = refused-shows old c.args.thread.number (action.Serve c.args.port.number c.args.number) NothingToReply
    c.refused-in_default.result.outcome c.refused-in_default.result.after (rw (rw (← c.self.view_is) at none, nobody)
    refl) c.refused-in_default.ensures.outcome c.refused-in_default.ensures.after in
    rw (← c.self.view_is)
    (record { outcome = shown.outcome; after = shown.after; state = shown.state; stale = shown.stale; kept = shown.kept; meter = shown.meter })

pub first_client-requires : goal.first_client-requires
first_client-requires c =
    let there =
    running-there c.self.inside.threads.records c.args.thread.number (rw (← c.self.view_is) at c.requires.runs) in
    (there.0, omega (arith, there.1, c.self.invariant.clients))
