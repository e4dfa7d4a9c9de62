use Rattle.lot_laws.proofs.Insulated.{insulated}
use Rattle.lot_laws.proofs.insulation.changes_are_insulated.Goals as goal

pub returns : goal.returns
returns c = insulated
