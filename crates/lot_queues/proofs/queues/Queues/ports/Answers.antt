use Rattle.lot_queues.proofs.Holds.{opened, ports-are}
use Rattle.lot_queues.proofs.queues.Queues.ports.Goals as goal

pub returns : goal.returns
returns c = ports-are (opened _ _ c.self.view_is c.self.invariant)
