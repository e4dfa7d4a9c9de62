use Rattle.lot_laws.proofs.Killed.{listed}
use Rattle.lot_laws.proofs.kills.served_threads_are_listed.Goals as goal

pub returns : goal.returns
returns c = listed
