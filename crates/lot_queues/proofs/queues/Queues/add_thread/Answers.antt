use Rattle.lot_queues.proofs.Holds.{opened, add-thread}
use Rattle.lot_queues.proofs.queues.Queues.add_thread.Goals as goal

pub invariant_of-self : goal.invariant_of-self
invariant_of-self c = let after = add-thread (opened _ _ c.self.view_is c.self.invariant) c.requires.room in after.laid

pub returns : goal.returns
returns c = let after = add-thread (opened _ _ c.self.view_is c.self.invariant) c.requires.room in after.is
