use Rattle.lot_queues.proofs.Lemmas.{clients-are, clients-below, first-thread, fits, opened}
use Rattle.lot_queues.proofs.queues.Queues.first_client.Goals as goal

pub first-requires : goal.first-requires
first-requires c =
    record { list_exists = clients-below (opened _ _ c.self.view_is c.self.invariant) _ _ c.requires c.node_of.ensures }

pub thread_of-requires : goal.thread_of-requires
thread_of-requires c = fits (opened _ _ c.self.view_is c.self.invariant) _ _ c.first.ensures.front

pub returns : goal.returns
returns c = first-thread c.self.inside.lists _ _ _ _ _ c.first.ensures.front c.thread_of.ensures c.node_of.ensures
    (clients-are (opened _ _ c.self.view_is c.self.invariant) _ c.requires)
