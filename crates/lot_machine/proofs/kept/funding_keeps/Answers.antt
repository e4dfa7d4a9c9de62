use Rattle.lot_machine.proofs.FundingKept.{HasNoCycle-funds, HasNoCycle-funds_tested, FundsThere-funds}
use Rattle.lot_machine.proofs.kept.funding_keeps.Goals as goal

pub returns-clause-no_cycle : goal.returns-clause-no_cycle
returns-clause-no_cycle c = HasNoCycle-funds

pub returns-clause-tested : goal.returns-clause-tested
returns-clause-tested c = HasNoCycle-funds_tested

pub returns-clause-there : goal.returns-clause-there
returns-clause-there c = FundsThere-funds
