use Rattle.lot_laws.proofs.Lemmas.{false, owns-nothing, refl}
use Rattle.lot_laws.proofs.worked.transfers.call_taken.Goals as goal

pub returns-clause-takes : goal.returns-clause-takes
returns-clause-takes c = (1, 0, 1, 9, 1, false, refl, refl)

pub returns-clause-owns : goal.returns-clause-owns
returns-clause-owns c = owns-nothing
