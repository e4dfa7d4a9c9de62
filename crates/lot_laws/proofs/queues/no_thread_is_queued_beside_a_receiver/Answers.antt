use Rattle.lot_laws.proofs.PortQueues.{never-both}
use Rattle.lot_laws.proofs.queues.no_thread_is_queued_beside_a_receiver.Goals as goal

pub returns : goal.returns
returns c = never-both
