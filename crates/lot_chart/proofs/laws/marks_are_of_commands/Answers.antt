use Rattle.lot_chart.proofs.FirstMarks.{mark-for, mark-of}
use Rattle.lot_chart.proofs.laws.marks_are_of_commands.Goals as goal

pub returns-clause-commands : goal.returns-clause-commands
returns-clause-commands c = mark-of

pub returns-clause-all : goal.returns-clause-all
returns-clause-all c = mark-for
