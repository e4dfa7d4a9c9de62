use Rattle.lot_machine.proofs.FundingKept.{HasNoCycle-currencies, FundsThere-after, FundsThere-removed}
use Rattle.lot_machine.proofs.kept.currencies_keep.Goals as goal

pub returns-clause-no_cycle : goal.returns-clause-no_cycle
returns-clause-no_cycle c = HasNoCycle-currencies

pub returns-clause-made : goal.returns-clause-made
returns-clause-made c = FundsThere-after

pub returns-clause-removed : goal.returns-clause-removed
returns-clause-removed c = FundsThere-removed
