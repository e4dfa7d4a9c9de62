use Rattle.lot_machine.proofs.StepChanges.{changes-of, step-leads}
use Rattle.lot_machine.proofs.kept.steps_are_changes.Goals as goal

pub returns : goal.returns
returns c s e = changes-of (step-leads s e)
