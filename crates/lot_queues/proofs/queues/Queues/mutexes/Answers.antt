use Rattle.lot_queues.proofs.Holds.{opened, mutexes-are}
use Rattle.lot_queues.proofs.queues.Queues.mutexes.Goals as goal

pub returns : goal.returns
returns c = mutexes-are (opened _ _ c.self.view_is c.self.invariant)
