use Rattle.lot_kernel.proofs.Lemmas.{arith, rooms-are}
use Rattle.lot_kernel.proofs.tables.Tables.held.Goals as goal

pub held-requires : goal.held-requires
held-requires c = let rooms = rooms-are c.self.inside c.self.invariant in omega (arith, rooms.processors)

pub held-requires-2 : goal.held-requires-2
held-requires-2 c = let rooms = rooms-are c.self.inside c.self.invariant in omega (arith, rooms.few)

pub returns : goal.returns
returns c =
    let i = c.self.inside in
    let rooms = rooms-are i c.self.invariant in
    rw (← c.self.view_is)
    (omega (arith, rooms.tickets, rooms.currencies, rooms.threads, rooms.owners, rooms.processors, rooms.free, c.self.invariant.currency_room, c.self.invariant.currency_places, c.self.invariant.thread_places, c.self.invariant.queue_room, c.self.invariant.holders.ports, c.self.invariant.holders.mutexes, c.self.invariant.lottery_room))
