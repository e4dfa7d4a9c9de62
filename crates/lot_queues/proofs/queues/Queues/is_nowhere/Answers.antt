use Rattle.lot_queues.proofs.Lemmas.{node-below, nowhere-test, opened}
use Rattle.lot_queues.proofs.queues.Queues.is_nowhere.Goals as goal

pub list_of-requires : goal.list_of-requires
list_of-requires c =
    record { node_exists = node-below (opened _ _ c.self.view_is c.self.invariant) _ _ c.requires c.node_of.ensures }

pub returns : goal.returns
returns c = nowhere-test (opened _ _ c.self.view_is c.self.invariant) _ _ _ _ c.requires c.node_of.ensures
    c.is_none.ensures c.list_of.ensures.found c.list_of.ensures.free
