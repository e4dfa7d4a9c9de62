use Rattle.lot_machine.proofs.Unserved.{counted}
use Rattle.lot_machine.proofs.queued.holders_are_counted.Goals as goal

pub returns : goal.returns
returns c = counted
