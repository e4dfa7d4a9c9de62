use Rattle.lot_curves.proofs.ColumnNames.{columns-apart}
use Rattle.lot_curves.proofs.laws.names_are_different.Goals as goal

pub returns : goal.returns
returns c = columns-apart
