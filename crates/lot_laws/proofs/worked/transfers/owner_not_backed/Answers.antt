use Rattle.std.proofs.Common.{false, refl}
use Rattle.lot_laws.proofs.worked.transfers.owner_not_backed.Goals as goal

pub returns-clause-waits : goal.returns-clause-waits
returns-clause-waits c = (2, 0, 1, 1, false, refl, refl, refl)
