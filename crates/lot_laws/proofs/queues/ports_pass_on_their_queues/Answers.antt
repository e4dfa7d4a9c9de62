use Rattle.lot_laws.proofs.PortQueues.{ports-pass}
use Rattle.lot_laws.proofs.queues.ports_pass_on_their_queues.Goals as goal

pub returns : goal.returns
returns c = ports-pass
