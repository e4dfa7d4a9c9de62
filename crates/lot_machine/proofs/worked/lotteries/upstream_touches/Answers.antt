use Rattle.lot_machine.proofs.TouchedRow.{touched-row}
use Rattle.lot_machine.proofs.worked.lotteries.upstream_touches.Goals as goal

pub returns : goal.returns
returns c = touched-row
