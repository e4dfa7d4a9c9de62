use Rattle.lot_explain.proofs.Lenders.{all-lent}
use Rattle.lot_explain.proofs.laws.loans_are_lends.Goals as goal

pub returns : goal.returns
returns c = all-lent
