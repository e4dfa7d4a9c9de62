use Rattle.lot_curves.proofs.Windows.{draws-all, ticks-split}
use Rattle.lot_curves.proofs.laws.windows_are_differences.Goals as goal

pub returns-clause-ticks : goal.returns-clause-ticks
returns-clause-ticks c stretches window tick = ticks-split window tick stretches

pub returns-clause-draws : goal.returns-clause-draws
returns-clause-draws c stretches window tick long = draws-all window tick long stretches
