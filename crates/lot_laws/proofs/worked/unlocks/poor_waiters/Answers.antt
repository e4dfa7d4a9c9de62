use Rattle.std.proofs.Common.{None, false, refl}
use Rattle.lot_laws.proofs.worked.unlocks.poor_waiters.Goals as goal

pub returns-clause-passes : goal.returns-clause-passes
returns-clause-passes c = (1, 0, 5, 1, None, false, refl, refl)
