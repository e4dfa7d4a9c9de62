use Rattle.lot_queues.proofs.Lemmas.{arith, away-to, itself, node-below, nowhere, opened, taken-out}
use Rattle.lot_queues.proofs.queues.Queues.take_out.Goals as goal

pub remove_listed-requires : goal.remove_listed-requires
remove_listed-requires c = node-below (opened _ _ c.self.view_is c.self.invariant) _ _ c.requires c.node_of.ensures

pub invariant_of-self : goal.invariant_of-self
invariant_of-self c =
    let after = taken-out (opened _ _ c.self.view_is c.self.invariant) _ _ c.requires c.node_of.ensures _
    c.remove_listed.ensures.left c.remove_listed.ensures.size c.remove_listed.ensures.consistent in
    after.laid

pub returns-clause-out : goal.returns-clause-out
returns-clause-out c =
    let after = taken-out (opened _ _ c.self.view_is c.self.invariant) _ _ c.requires c.node_of.ensures _
    c.remove_listed.ensures.left c.remove_listed.ensures.size c.remove_listed.ensures.consistent in
    after.is

pub returns-clause-nowhere : goal.returns-clause-nowhere
returns-clause-nowhere c =
    let held = opened _ _ c.self.view_is c.self.invariant in
    let after = taken-out held _ _ c.requires c.node_of.ensures _ c.remove_listed.ensures.left
    c.remove_listed.ensures.size c.remove_listed.ensures.consistent in
    nowhere (itself after) _ (away-to c.remove_listed.new.lists _ _
    (omega (arith, c.requires.0, c.node_of.ensures)) c.remove_listed.ensures.free)
