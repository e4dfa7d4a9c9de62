use Rattle.lot_machine.proofs.FullTables.{tickets-counted, currencies-counted, threads-counted}
use Rattle.lot_machine.proofs.reused.only_what_exists_counts.Goals as goal

pub returns-clause-tickets : goal.returns-clause-tickets
returns-clause-tickets c = tickets-counted

pub returns-clause-currencies : goal.returns-clause-currencies
returns-clause-currencies c = currencies-counted

pub returns-clause-threads : goal.returns-clause-threads
returns-clause-threads c = threads-counted
