use Rattle.lot_laws.proofs.EachTicket.{event-amounts}
use Rattle.lot_laws.proofs.reachable.events_keep_amounts_positive.Goals as goal

pub returns : goal.returns
returns c = event-amounts
