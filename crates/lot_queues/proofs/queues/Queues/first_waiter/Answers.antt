use Rattle.lot_queues.proofs.Lemmas.{first-there, first-thread, fits, opened, waiters-are, waiters-below}
use Rattle.lot_queues.proofs.queues.Queues.first_waiter.Goals as goal

pub first-requires : goal.first-requires
first-requires c =
    record { list_exists = waiters-below (opened _ _ c.self.view_is c.self.invariant) _ _ c.requires c.waiters.ensures }

pub thread_of-requires : goal.thread_of-requires
thread_of-requires c = fits (opened _ _ c.self.view_is c.self.invariant) _ _ c.first.ensures.front

pub returns-clause-first : goal.returns-clause-first
returns-clause-first c = first-thread c.self.inside.lists _ _ _ _ _ c.first.ensures.front c.thread_of.ensures
    c.waiters.ensures (waiters-are (opened _ _ c.self.view_is c.self.invariant) _ c.requires)

pub returns-clause-there : goal.returns-clause-there
returns-clause-there c =
    first-there (opened _ _ c.self.view_is c.self.invariant) _ _ _ c.first.ensures.front c.thread_of.ensures
