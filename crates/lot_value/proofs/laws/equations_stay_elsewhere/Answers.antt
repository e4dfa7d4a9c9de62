use Rattle.lot_value.proofs.Differing.{same-equation}
use Rattle.lot_value.proofs.laws.equations_stay_elsewhere.Goals as goal

pub returns : goal.returns
returns c unit before after live now = same-equation unit before after live now
