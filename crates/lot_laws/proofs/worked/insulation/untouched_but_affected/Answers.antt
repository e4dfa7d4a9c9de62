use Rattle.lot_laws.proofs.SharedCurrency.{other-untouched, other-affected}
use Rattle.lot_laws.proofs.worked.insulation.untouched_but_affected.Goals as goal

pub returns-clause-untouched : goal.returns-clause-untouched
returns-clause-untouched c = other-untouched

pub returns-clause-affected : goal.returns-clause-affected
returns-clause-affected c = other-affected
