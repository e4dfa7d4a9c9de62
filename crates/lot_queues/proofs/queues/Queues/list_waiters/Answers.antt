use Rattle.lot_queues.proofs.Lemmas.{ap, arith, opened, room-is, sym, threads_in, waiters-are, waiters-below, ◌∙◌}
use Rattle.lot_queues.proofs.queues.Queues.list_waiters.Goals as goal

pub list_threads-requires-clause-list : goal.list_threads-requires-clause-list
list_threads-requires-clause-list c =
    waiters-below (opened _ _ c.self.view_is c.self.invariant) _ _ c.requires.mutex_there c.waiters.ensures

pub list_threads-requires-clause-room : goal.list_threads-requires-clause-room
list_threads-requires-clause-room c = let held = opened _ _ c.self.view_is c.self.invariant in
    omega (arith, c.requires.room, room-is held, held.laid.nodes)

pub returns-clause-waiters : goal.returns-clause-waiters
returns-clause-waiters c = c.list_threads.ensures.threads ∙ ap (threads_in c.self.inside.lists) c.waiters.ensures
    ∙ sym (waiters-are (opened _ _ c.self.view_is c.self.invariant) _ c.requires.mutex_there)

pub returns-clause-few : goal.returns-clause-few
returns-clause-few c = let held = opened _ _ c.self.view_is c.self.invariant in
    omega (arith, c.list_threads.ensures.few, room-is held, held.laid.nodes)
