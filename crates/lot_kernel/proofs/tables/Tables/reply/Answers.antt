use Rattle.lot_kernel.proofs.Lemmas.{NothingToReply, QueueLists, Threaded, ap, arith, freed_in, keeps-both, port-leaves, port-shows, refl, refused-shows, reply-done, reply-keeps, running-there, sizes_of, sym, the_view}
use Rattle.lot_machine.specs.declared.trap.Trap.TheVariants as action
use Rattle.lot_kernel.proofs.tables.Tables.reply.Goals as goal

pub reply-requires-clause-server : goal.reply-requires-clause-server
reply-requires-clause-server c =
    let there =
    running-there c.self.inside.threads.records c.args.thread.number (rw (← c.self.view_is) at c.requires.runs) in
    (there.0, omega (arith, there.1, c.self.invariant.clients))

pub invariant_of-self : goal.invariant_of-self
invariant_of-self c = let left = port-leaves (sizes_of c.self.inside.limits)
    (freed_in c.self.inside.freed) c.self.inside.currencies.items c.self.inside.threads c.self.inside.queues
    c.reply.new.threads c.reply.new.queues _ c.self.invariant.threads c.self.invariant.holders
    (reply-keeps c.self.inside.threads.records c.self.inside.queues.clients c.self.inside.queues.ports
    c.args.thread.number c.args.number) c.reply.ensures.done.threads c.reply.ensures.done.queues in
    keeps-both c.self.inside c.self.invariant c.reply.new.threads c.reply.new.queues left.0 left.1
    (ap (λ (v : Threaded). v.threads) c.reply.ensures.done.threads) left.2
    (ap (λ (q : QueueLists). q.room) c.reply.ensures.done.queues) left.3

pub returns : goal.returns
returns c = let shown = port-shows (sizes_of c.self.inside.limits) (freed_in c.self.inside.freed)
    c.self.inside.currencies.items c.self.inside.threads c.self.inside.queues c.reply.new.threads c.reply.new.queues _ _
    _ _ c.self.invariant.threads (reply-done (the_view c.self.inside).state c.args.thread.number c.in-Some.client
    c.args.number (sym c.in-Some.ensures)) c.reply.ensures.done.outcome c.reply.ensures.done.after
    c.reply.ensures.done.threads c.reply.ensures.done.queues c.reply.ensures.done.stale c.reply.ensures.done.kept in
    rw (← c.self.view_is)
    (record { outcome = shown.outcome; after = shown.after; state = shown.state; stale = shown.stale; kept = shown.kept; meter = shown.meter })

pub returns-in_default : goal.returns-in_default
returns-in_default c =
    let nobody = sym c.in_default.ensures in
    let shown = refused-shows (the_view c.self.inside) c.args.thread.number
    (action.Reply c.args.number) NothingToReply c.refused.result.outcome c.refused.result.after
    (rw nobody refl) c.refused.ensures.outcome c.refused.ensures.after in
    rw (← c.self.view_is)
    (record { outcome = shown.outcome; after = shown.after; state = shown.state; stale = shown.stale; kept = shown.kept; meter = shown.meter })

pub first_client-requires : goal.first_client-requires
first_client-requires c =
    let there =
    running-there c.self.inside.threads.records c.args.thread.number (rw (← c.self.view_is) at c.requires.runs) in
    (there.0, omega (arith, there.1, c.self.invariant.clients))
