use Rattle.lot_explain.proofs.Reasons.{plain-weight, reason-weight}
use Rattle.lot_explain.proofs.laws.reasons_give_the_weights.Goals as goal

pub returns-clause-compensated : goal.returns-clause-compensated
returns-clause-compensated c = reason-weight

pub returns-clause-other : goal.returns-clause-other
returns-clause-other c = plain-weight
