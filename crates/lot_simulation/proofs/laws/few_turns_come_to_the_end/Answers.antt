use Rattle.lot_simulation.proofs.EarlyEnds.{report-whole}
use Rattle.lot_simulation.proofs.laws.few_turns_come_to_the_end.Goals as goal

pub returns : goal.returns
returns c = report-whole
