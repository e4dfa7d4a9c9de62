use Rattle.lot_laws.proofs.PortQueues.{queued-listed, receiving-listed}
use Rattle.lot_laws.proofs.queues.waiting_threads_are_listed.Goals as goal

pub returns-clause-queued : goal.returns-clause-queued
returns-clause-queued c = queued-listed

pub returns-clause-receiving : goal.returns-clause-receiving
returns-clause-receiving c = receiving-listed
