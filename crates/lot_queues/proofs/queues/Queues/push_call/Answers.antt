use Rattle.lot_queues.proofs.Lemmas.{calls-below, free, node-below, opened, push-call}
use Rattle.lot_queues.proofs.queues.Queues.push_call.Goals as goal

pub push_back-requires-clause-list_exists : goal.push_back-requires-clause-list_exists
push_back-requires-clause-list_exists c =
    calls-below (opened _ _ c.self.view_is c.self.invariant) _ _ c.requires.port_there c.calls.ensures

pub push_back-requires-clause-node_exists : goal.push_back-requires-clause-node_exists
push_back-requires-clause-node_exists c =
    node-below (opened _ _ c.self.view_is c.self.invariant) _ _ c.requires.thread_there c.node_of-node.ensures

pub push_back-requires-clause-free : goal.push_back-requires-clause-free
push_back-requires-clause-free c = free
    (opened _ _ c.self.view_is c.self.invariant) _ _ c.requires.thread_there c.node_of-node.ensures c.requires.nowhere

pub invariant_of-self : goal.invariant_of-self
invariant_of-self c = let after = push-call (opened _ _ c.self.view_is c.self.invariant) _ _ c.args.number _ _ _
    c.requires.port_there c.requires.thread_there c.requires.nowhere c.calls.ensures c.node_of-node.ensures
    c.push_back.ensures.pushed c.push_back.ensures.consistent in after.laid

pub returns : goal.returns
returns c = let after = push-call (opened _ _ c.self.view_is c.self.invariant) _ _ c.args.number _ _ _
    c.requires.port_there c.requires.thread_there c.requires.nowhere c.calls.ensures c.node_of-node.ensures
    c.push_back.ensures.pushed c.push_back.ensures.consistent in after.is
