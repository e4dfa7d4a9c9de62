use Rattle.lot_machine.proofs.StepsKept.{step-apart}
use Rattle.lot_machine.proofs.kept.events_keep_apart.Goals as goal

pub returns : goal.returns
returns c = step-apart
