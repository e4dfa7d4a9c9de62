use Rattle.lot_laws.proofs.StayOut.{event-edges}
use Rattle.lot_laws.proofs.removed.events_refer_to_no_removed_thread.Goals as goal

pub returns : goal.returns
returns c = event-edges
