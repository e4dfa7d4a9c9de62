use Rattle.lot_queues.proofs.Lemmas.{arith, away-to, itself, nowhere, opened, others-nowhere, take-waiter, taken-waiter, there, waiter-listed, waiter-there, waiter-within}
use Rattle.lot_queues.proofs.queues.Queues.take_waiter.Goals as goal

pub node_of-requires : goal.node_of-requires
node_of-requires c = (waiter-there (opened _ _ c.self.view_is c.self.invariant) _ c.requires.waits).0

pub remove-requires : goal.remove-requires
remove-requires c = record { listed = waiter-listed (opened _ _ c.self.view_is c.self.invariant) _ _ c.requires.waits c.node_of.ensures }

pub invariant_of-self : goal.invariant_of-self
invariant_of-self c = let after = taken-waiter (opened _ _ c.self.view_is c.self.invariant) _ _ _ c.requires.waits
    c.node_of.ensures c.remove.ensures.removed c.remove.ensures.consistent in after.laid

pub returns-clause-taken : goal.returns-clause-taken
returns-clause-taken c = λ m place at. let after = take-waiter (opened _ _ c.self.view_is c.self.invariant) m place _ _
    _ at c.node_of.ensures c.remove.ensures.removed c.remove.ensures.consistent in after.is

pub returns-clause-there : goal.returns-clause-there
returns-clause-there c =
    let held = opened _ _ c.self.view_is c.self.invariant in
    let after =
    taken-waiter held _ _ _ c.requires.waits c.node_of.ensures c.remove.ensures.removed c.remove.ensures.consistent in
    let within = waiter-there held _ c.requires.waits in
    there (itself after) _ within.0 within.1

pub returns-clause-nowhere : goal.returns-clause-nowhere
returns-clause-nowhere c =
    let held = opened _ _ c.self.view_is c.self.invariant in
    let after =
    taken-waiter held _ _ _ c.requires.waits c.node_of.ensures c.remove.ensures.removed c.remove.ensures.consistent in
    let within = waiter-there held _ c.requires.waits in
    nowhere (itself after) _
    (away-to c.remove.new.self _ _ (omega (arith, within.0, c.node_of.ensures)) c.remove.ensures.free)

pub returns-clause-others : goal.returns-clause-others
returns-clause-others c =
    let held = opened _ _ c.self.view_is c.self.invariant in
    let after =
    taken-waiter held _ _ _ c.requires.waits c.node_of.ensures c.remove.ensures.removed c.remove.ensures.consistent in
    others-nowhere held (itself after)
    (waiter-within held _ _ _ c.requires.waits c.node_of.ensures c.remove.ensures.removed)
