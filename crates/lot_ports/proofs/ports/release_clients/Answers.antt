use Rattle.lot_ports.proofs.Lemmas.{counted, fewer, released-start, released-step, sym}
use Rattle.lot_ports.proofs.ports.release_clients.Goals as goal

pub loop-client-init : goal.loop-client-init
loop-client-init c = released-start c.args.threads.now c.args.queues.now c.args.server.number c.requires.server

pub set_status-requires-clause-thread : goal.set_status-requires-clause-thread
set_status-requires-clause-thread c =
    counted c.args.threads.now c.args.queues.now c.args.server.number c.requires.server c.loop-client.threads
    c.loop-client.queues c.loop-client.invariant c.requires.same c.in-Some.client c.take_client.new.self _
    c.in-Some.ensures.rest c.in-Some.ensures.there

pub loop-client-smaller : goal.loop-client-smaller
loop-client-smaller c =
    fewer c.args.threads.now c.args.queues.now c.args.server.number c.requires.server c.loop-client.threads
    c.loop-client.queues c.loop-client.invariant c.in-Some.client c.set_status.new.self c.take_client.new.self
    (sym c.in-Some.ensures.first) c.in-Some.ensures.rest c.set_status.ensures.set

pub loop-client-preserved : goal.loop-client-preserved
loop-client-preserved c =
    released-step c.args.threads.now c.args.queues.now c.args.server.number c.requires.server c.loop-client.threads
    c.loop-client.queues c.loop-client.invariant c.in-Some.client c.set_status.new.self c.take_client.new.self
    (sym c.in-Some.ensures.first) c.in-Some.ensures.rest c.set_status.ensures.set
    c.set_status.ensures.kept c.set_status.ensures.stale
