use Rattle.lot_simulation.proofs.EarlyEnds.{refusal-last}
use Rattle.lot_simulation.proofs.laws.refusals_end_strict_programs.Goals as goal

pub returns : goal.returns
returns c = refusal-last
