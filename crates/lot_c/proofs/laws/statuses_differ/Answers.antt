use Rattle.lot_c.proofs.Plain.{statuses}
use Rattle.lot_c.proofs.laws.statuses_differ.Goals as goal

pub returns : goal.returns
returns c = statuses
