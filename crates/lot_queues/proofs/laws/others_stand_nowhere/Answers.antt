use Rattle.lot_queues.proofs.Callers.{nowhere-else}
use Rattle.lot_queues.proofs.laws.others_stand_nowhere.Goals as goal

pub returns : goal.returns
returns c = nowhere-else
