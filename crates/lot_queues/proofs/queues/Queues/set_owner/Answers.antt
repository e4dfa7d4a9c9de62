use Rattle.lot_queues.proofs.Lemmas.{arith, in-mutexes, opened, set-owner}
use Rattle.lot_queues.proofs.queues.Queues.set_owner.Goals as goal

pub index_mut-requires : goal.index_mut-requires
index_mut-requires c =
    let held = opened _ _ c.self.view_is c.self.invariant in
    let within = in-mutexes held _ c.requires in
    omega (arith, within.0, within.1, held.laid.owners)

pub returns : goal.returns
returns c = let after = set-owner (opened _ _ c.self.view_is c.self.invariant) c.args.mutex c.index_of.result
    c.args.owner c.requires c.index_of.ensures in after.is
