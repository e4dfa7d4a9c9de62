use Rattle.std.proofs.Common.{false, refl}
use Rattle.lot_laws.proofs.worked.transfers.server_with_a_ticket.Goals as goal

pub returns-clause-takes : goal.returns-clause-takes
returns-clause-takes c = (1, 0, 1, 9, 1, false, refl, refl)
