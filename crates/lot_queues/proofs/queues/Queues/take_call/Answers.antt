use Rattle.lot_queues.proofs.Lemmas.{caller-nowhere, caller-there, calls-are, calls-below, first-call, first-within, fits, has-sent, itself, opened, others-nowhere, take-call}
use Rattle.lot_queues.proofs.queues.Queues.take_call.Goals as goal

pub take_first-node-requires : goal.take_first-node-requires
take_first-node-requires c =
    calls-below (opened _ _ c.self.view_is c.self.invariant) _ _ c.requires.port_there c.calls.ensures

pub taken_call-requires-clause-sent : goal.taken_call-requires-clause-sent
taken_call-requires-clause-sent c =
    has-sent (opened _ _ c.self.view_is c.self.invariant) _ _ _ c.deref.ensures.value c.take_first-node.ensures.first

pub taken_call-requires-clause-fits : goal.taken_call-requires-clause-fits
taken_call-requires-clause-fits c =
    fits (opened _ _ c.self.view_is c.self.invariant) _ _ c.take_first-node.ensures.first

pub invariant_of-self : goal.invariant_of-self
invariant_of-self c =
    let held = opened _ _ c.self.view_is c.self.invariant in
    let after = take-call held _ _ _ c.requires.port_there c.calls.ensures c.take_first-node.ensures.rest
    c.take_first-node.ensures.consistent in
    after.laid

pub returns-clause-first : goal.returns-clause-first
returns-clause-first c = let held = opened _ _ c.self.view_is c.self.invariant in
    first-call c.self.inside.lists c.self.inside.sent.items _ _ _ _ _ _ c.deref.ensures.value
    c.take_first-node.ensures.first c.taken_call.ensures.call c.calls.ensures (calls-are held _ c.requires.port_there)

pub returns-clause-rest : goal.returns-clause-rest
returns-clause-rest c =
    let held = opened _ _ c.self.view_is c.self.invariant in
    let after = take-call held _ _ _ c.requires.port_there c.calls.ensures c.take_first-node.ensures.rest
    c.take_first-node.ensures.consistent in
    after.is

pub returns-clause-there : goal.returns-clause-there
returns-clause-there c =
    let held = opened _ _ c.self.view_is c.self.invariant in
    let after = take-call held _ _ _ c.requires.port_there c.calls.ensures c.take_first-node.ensures.rest
    c.take_first-node.ensures.consistent in
    caller-there held (itself after) _ _ _ c.take_first-node.ensures.first c.taken_call.ensures.caller

pub returns-clause-nowhere : goal.returns-clause-nowhere
returns-clause-nowhere c =
    let held = opened _ _ c.self.view_is c.self.invariant in
    let after = take-call held _ _ _ c.requires.port_there c.calls.ensures c.take_first-node.ensures.rest
    c.take_first-node.ensures.consistent in
    caller-nowhere held (itself after) _ _ c.taken_call.ensures.caller c.take_first-node.ensures.free

pub returns-clause-others : goal.returns-clause-others
returns-clause-others c =
    let held = opened _ _ c.self.view_is c.self.invariant in
    let after = take-call held _ _ _ c.requires.port_there c.calls.ensures c.take_first-node.ensures.rest
    c.take_first-node.ensures.consistent in
    others-nowhere held (itself after)
    (first-within held _ _ (calls-below held _ _ c.requires.port_there c.calls.ensures) c.take_first-node.ensures.rest)
