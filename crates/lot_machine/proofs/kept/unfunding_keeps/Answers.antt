use Rattle.lot_machine.proofs.FundingKept.{HasNoCycle-target, FundsThere-target}
use Rattle.lot_machine.proofs.kept.unfunding_keeps.Goals as goal

pub returns-clause-no_cycle : goal.returns-clause-no_cycle
returns-clause-no_cycle c = HasNoCycle-target

pub returns-clause-there : goal.returns-clause-there
returns-clause-there c = FundsThere-target
