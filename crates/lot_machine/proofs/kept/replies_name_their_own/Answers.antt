use Rattle.lot_machine.proofs.NamedThreads.{named-other}
use Rattle.lot_machine.proofs.kept.replies_name_their_own.Goals as goal

pub returns : goal.returns
returns c = named-other
