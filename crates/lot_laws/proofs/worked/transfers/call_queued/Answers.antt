use Rattle.std.proofs.Common.{false, refl}
use Rattle.lot_laws.proofs.worked.transfers.call_queued.Goals as goal

pub returns-clause-queues : goal.returns-clause-queues
returns-clause-queues c = (2, 0, 1, 9, 1, false, refl, refl)

pub returns-clause-takes : goal.returns-clause-takes
returns-clause-takes c = (1, 0, 1, 9, 1, false, refl, refl)

pub returns-clause-replies : goal.returns-clause-replies
returns-clause-replies c = (1, 0, 5, 1, false, refl, refl)
