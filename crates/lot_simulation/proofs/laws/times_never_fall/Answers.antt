use Rattle.lot_simulation.proofs.TimesRise.{times-rise}
use Rattle.lot_simulation.proofs.laws.times_never_fall.Goals as goal

pub returns : goal.returns
returns c = times-rise
