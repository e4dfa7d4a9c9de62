use Rattle.lot_curves.proofs.Below.{column-ticks, same-whole}
use Rattle.lot_curves.proofs.laws.turns_count_for_currencies.Goals as goal

pub returns-clause-below : goal.returns-clause-below
returns-clause-below c = column-ticks

pub returns-clause-whole : goal.returns-clause-whole
returns-clause-whole c = same-whole
