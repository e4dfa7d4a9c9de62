use Rattle.lot_c.proofs.Plain.{replies}
use Rattle.lot_c.proofs.laws.replies_differ.Goals as goal

pub returns : goal.returns
returns c = replies
