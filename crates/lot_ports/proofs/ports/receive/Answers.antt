use Rattle.lot_ports.proofs.Lemmas.{Contains, QueueLists, ToThread, ap, arith, caller-first, callers_at, funding_in, lends-to-live, length, live-counted, may-lend-to, option_map, port_at, queued_call, subst, sym, ◌∙◌}
use Rattle.lot_ports.proofs.ports.receive.Goals as goal

pub set_status-requires-clause-lend : goal.set_status-requires-clause-lend
set_status-requires-clause-lend c =
    may-lend-to (funding_in c.args.threads.now) c.in-Some.call.caller c.args.threads.now.lending.without_lending
    (ToThread c.args.server.number)
    (lends-to-live c.args.threads.now c.in-Some.call.caller c.args.server.number c.requires.server
    (λ same. c.requires.nowhere.calls c.args.port.number (subst (λ t. Contains (callers_at c.args.queues.now.ports
    c.args.port.number) t) (sym same) (caller-first (port_at c.args.queues.now.ports c.args.port.number).calls
    (queued_call c.in-Some.call) (sym c.take_call.ensures.first ∙ ap (option_map queued_call) c.in-Some.is)))))

pub push_client-requires-clause-server_there : goal.push_client-requires-clause-server_there
push_client-requires-clause-server_there c =
    let there = live-counted c.args.threads.now c.args.server.number c.requires.server in
    (there.0, omega (arith, there.1, c.requires.same, ap (λ (q : QueueLists). length q.clients) c.take_call.ensures.rest))
