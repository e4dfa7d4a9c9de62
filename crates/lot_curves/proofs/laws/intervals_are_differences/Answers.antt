use Rattle.lot_curves.proofs.Cuts.{interval-rises}
use Rattle.lot_curves.proofs.laws.intervals_are_differences.Goals as goal

pub returns : goal.returns
returns c = interval-rises
