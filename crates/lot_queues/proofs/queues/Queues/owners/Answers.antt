use Rattle.lot_queues.proofs.Lemmas.{opened, owners-are, ◌∙◌}
use Rattle.lot_queues.proofs.queues.Queues.owners.Goals as goal

pub returns : goal.returns
returns c = c.deref.ensures.value ∙ owners-are (opened _ _ c.self.view_is c.self.invariant)
