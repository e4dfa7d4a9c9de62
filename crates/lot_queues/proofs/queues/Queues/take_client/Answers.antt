use Rattle.lot_queues.proofs.Lemmas.{clients-are, clients-below, first-taken, first-thread, fits, opened, take-client}
use Rattle.lot_queues.proofs.queues.Queues.take_client.Goals as goal

pub take_first-node-requires : goal.take_first-node-requires
take_first-node-requires c =
    clients-below (opened _ _ c.self.view_is c.self.invariant) _ _ c.requires.server_there c.node_of.ensures

pub thread_of-requires : goal.thread_of-requires
thread_of-requires c = fits (opened _ _ c.self.view_is c.self.invariant) _ _ c.take_first-node.ensures.first

pub invariant_of-self : goal.invariant_of-self
invariant_of-self c = (take-client (opened _ _ c.self.view_is c.self.invariant) _ _ _ c.requires.server_there
    c.node_of.ensures c.take_first-node.ensures.rest c.take_first-node.ensures.consistent).laid

pub returns : goal.returns
returns c =
    let held = opened _ _ c.self.view_is c.self.invariant in
    let after =
    first-taken held (take-client held _ _ _ c.requires.server_there c.node_of.ensures c.take_first-node.ensures.rest
    c.take_first-node.ensures.consistent) _ _ _ (clients-below held _ _ c.requires.server_there c.node_of.ensures)
    c.take_first-node.ensures.first c.take_first-node.ensures.rest c.take_first-node.ensures.free c.thread_of.ensures in
    record { first = first-thread c.self.inside.lists _ _ _ _ _ c.take_first-node.ensures.first c.thread_of.ensures c.node_of.ensures (clients-are held _ c.requires.server_there); rest = after.0; unchanged = after.1; there = after.2; nowhere = after.3; others = after.4 }
