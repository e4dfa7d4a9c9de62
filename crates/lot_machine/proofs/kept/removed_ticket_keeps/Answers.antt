use Rattle.lot_machine.proofs.FundingKept.{HasNoCycle-without_ticket, FundsThere-without_ticket}
use Rattle.lot_machine.proofs.kept.removed_ticket_keeps.Goals as goal

pub returns-clause-no_cycle : goal.returns-clause-no_cycle
returns-clause-no_cycle c = HasNoCycle-without_ticket

pub returns-clause-there : goal.returns-clause-there
returns-clause-there c = FundsThere-without_ticket
