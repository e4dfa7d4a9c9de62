use Rattle.std.proofs.Common.{false, refl}
use Rattle.lot_laws.proofs.worked.transfers.servings.Goals as goal

pub returns-clause-waits : goal.returns-clause-waits
returns-clause-waits c = (1, 0, 1, 5, 1, false, refl, refl)

pub returns-clause-takes : goal.returns-clause-takes
returns-clause-takes c = (1, 0, 1, 5, 8, 1, false, refl, refl)
