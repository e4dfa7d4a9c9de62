use Rattle.lot_queues.proofs.Holds.{opened, threads-are}
use Rattle.lot_queues.proofs.queues.Queues.threads.Goals as goal

pub returns : goal.returns
returns c = threads-are (opened _ _ c.self.view_is c.self.invariant)
