use Rattle.lot_value.proofs.Rightness.{pending-more}
use Rattle.lot_value.proofs.laws.changed_nodes_are_pending.Goals as goal

pub returns : goal.returns
returns c = pending-more
