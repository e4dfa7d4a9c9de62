use Rattle.lot_curves.proofs.Ends.{samples-few}
use Rattle.lot_curves.proofs.laws.samples_reach_the_last.Goals as goal

pub returns-clause-few : goal.returns-clause-few
returns-clause-few c = samples-few
