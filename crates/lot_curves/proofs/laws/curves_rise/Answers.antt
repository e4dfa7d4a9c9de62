use Rattle.lot_curves.proofs.Ends.{had-rises}
use Rattle.lot_curves.proofs.laws.curves_rise.Goals as goal

pub returns : goal.returns
returns c = had-rises
