use Rattle.lot_laws.proofs.DeadThreads.{dead-lends, dead-worth, dead-tickets}
use Rattle.lot_laws.proofs.kills.dead_threads_have_nothing.Goals as goal

pub returns-clause-lends : goal.returns-clause-lends
returns-clause-lends c = dead-lends

pub returns-clause-worth : goal.returns-clause-worth
returns-clause-worth c s t order dead = dead-worth s t dead order

pub returns-clause-tickets : goal.returns-clause-tickets
returns-clause-tickets c s t ticket order dead funds = dead-tickets s t dead order ticket funds
