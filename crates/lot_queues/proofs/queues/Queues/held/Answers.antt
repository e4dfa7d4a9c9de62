use Rattle.lot_queues.proofs.Lemmas.{arith, mutexes-are, opened, ports-are, room-is}
use Rattle.lot_queues.proofs.queues.Queues.held.Goals as goal

pub returns : goal.returns
returns c =
    let held = opened _ _ c.self.view_is c.self.invariant in
    omega (arith, held.laid.nodes, held.laid.lists, held.laid.sent, held.laid.owners, room-is held, ports-are held, mutexes-are held)
