use Rattle.lot_machine.proofs.StepSizes.{step-limits}
use Rattle.lot_machine.proofs.kept.limits_stay.Goals as goal

pub returns : goal.returns
returns c = step-limits
