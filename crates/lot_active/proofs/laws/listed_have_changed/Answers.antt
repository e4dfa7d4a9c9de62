use Rattle.lot_active.proofs.NodeChanges.{amounts-listed}
use Rattle.lot_active.proofs.laws.listed_have_changed.Goals as goal

pub returns : goal.returns
returns c = record { amounts = amounts-listed }
