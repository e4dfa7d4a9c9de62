use Rattle.lot_laws.proofs.AmountsKept.{amount-set, others-left, rest-left}
use Rattle.lot_laws.proofs.insulation.amounts_are_set.Goals as goal

pub returns-clause-ticket : goal.returns-clause-ticket
returns-clause-ticket c = amount-set

pub returns-clause-others : goal.returns-clause-others
returns-clause-others c = others-left

pub returns-clause-rest : goal.returns-clause-rest
returns-clause-rest c = rest-left
