use Rattle.lot_c.proofs.Plain.{meant}
use Rattle.lot_c.proofs.laws.each_event_can_be_meant.Goals as goal

pub returns : goal.returns
returns c = meant
