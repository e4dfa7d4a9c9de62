use Rattle.lot_c.proofs.Plain.{named, thread-named}
use Rattle.lot_c.proofs.laws.names_come_back.Goals as goal

pub returns-clause-named : goal.returns-clause-named
returns-clause-named c = named

pub returns-clause-thread : goal.returns-clause-thread
returns-clause-thread c = thread-named
