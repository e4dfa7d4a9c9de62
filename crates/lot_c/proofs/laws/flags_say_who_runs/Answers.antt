use Rattle.lot_c.proofs.GoesOn.{flag-says}
use Rattle.lot_c.proofs.laws.flags_say_who_runs.Goals as goal

pub returns : goal.returns
returns c = flag-says
