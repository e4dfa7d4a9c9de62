use Rattle.lot_c.proofs.Plain.{wide}
use Rattle.lot_c.proofs.laws.wides_come_back.Goals as goal

pub returns : goal.returns
returns c = wide
