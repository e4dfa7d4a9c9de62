use Rattle.lot_machine.proofs.RunsElsewhere.{step-used, step-found, step-idle}
use Rattle.lot_machine.proofs.kept.other_processors_run_on.Goals as goal

pub returns : goal.returns
returns c = record { thread = step-found; used = step-used; killed = step-idle }
