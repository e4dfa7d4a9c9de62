use Rattle.lot_laws.proofs.Conserved.{conserved, few-lost}
use Rattle.lot_laws.proofs.conservation.value_is_conserved.Goals as goal

pub returns-clause-adds_up : goal.returns-clause-adds_up
returns-clause-adds_up c = conserved

pub returns-clause-most : goal.returns-clause-most
returns-clause-most c = few-lost
