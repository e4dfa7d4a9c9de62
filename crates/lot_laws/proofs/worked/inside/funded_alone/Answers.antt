use Rattle.lot_laws.proofs.FundedAlone.{funded-alone}
use Rattle.lot_laws.proofs.worked.inside.funded_alone.Goals as goal

pub returns-clause-alone : goal.returns-clause-alone
returns-clause-alone c = funded-alone
