use Rattle.std.proofs.Common.{Some, false, refl}
use Rattle.lot_laws.proofs.worked.unlocks.two_waiters.Goals as goal

pub returns-clause-passes : goal.returns-clause-passes
returns-clause-passes c = (1, 0, 0, 1, Some (0, 3), false, refl, refl)
