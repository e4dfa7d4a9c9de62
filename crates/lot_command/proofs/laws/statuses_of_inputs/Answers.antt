use Rattle.lot_command.proofs.Statuses.{lenient-done, refused-refused, stopped-refused}
use Rattle.lot_command.proofs.laws.statuses_of_inputs.Goals as goal

pub returns-clause-lenient : goal.returns-clause-lenient
returns-clause-lenient c = lenient-done

pub returns-clause-refused : goal.returns-clause-refused
returns-clause-refused c = refused-refused

pub returns-clause-stopped : goal.returns-clause-stopped
returns-clause-stopped c = stopped-refused
