use Rattle.lot_machine.proofs.TouchedRow.{weighed-row}
use Rattle.lot_machine.proofs.worked.lotteries.inflation_touches.Goals as goal

pub returns : goal.returns
returns c = weighed-row
