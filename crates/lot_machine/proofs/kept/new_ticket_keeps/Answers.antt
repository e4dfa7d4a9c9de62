use Rattle.lot_machine.proofs.FundingKept.{HasNoCycle-new_ticket, FundsThere-new_ticket}
use Rattle.lot_machine.proofs.kept.new_ticket_keeps.Goals as goal

pub returns-clause-no_cycle : goal.returns-clause-no_cycle
returns-clause-no_cycle c = HasNoCycle-new_ticket

pub returns-clause-there : goal.returns-clause-there
returns-clause-there c = FundsThere-new_ticket
