use Rattle.lot_curves.proofs.Ends.{draws-at_last, ticks-at_last}
use Rattle.lot_curves.proofs.laws.curves_end_at_all.Goals as goal

pub returns-clause-ticks : goal.returns-clause-ticks
returns-clause-ticks c = ticks-at_last

pub returns-clause-draws : goal.returns-clause-draws
returns-clause-draws c = draws-at_last
