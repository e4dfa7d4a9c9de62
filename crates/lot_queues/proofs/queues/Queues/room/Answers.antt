use Rattle.lot_queues.proofs.Holds.{opened, room-is}
use Rattle.lot_queues.proofs.queues.Queues.room.Goals as goal

pub returns : goal.returns
returns c = room-is (opened _ _ c.self.view_is c.self.invariant)
