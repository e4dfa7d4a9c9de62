use Rattle.lot_machine.proofs.StepChanges.{command-keeps}
use Rattle.lot_machine.proofs.kept.commands_keep.Goals as goal

pub returns-clause-no_cycle : goal.returns-clause-no_cycle
returns-clause-no_cycle c = λ s command no_cycle there. (command-keeps s command no_cycle there).0

pub returns-clause-there : goal.returns-clause-there
returns-clause-there c = λ s command no_cycle there. (command-keeps s command no_cycle there).1
