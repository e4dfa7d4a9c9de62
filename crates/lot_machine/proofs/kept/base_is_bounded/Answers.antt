use Rattle.lot_machine.proofs.BaseKept.{base-bounded}
use Rattle.lot_machine.proofs.kept.base_is_bounded.Goals as goal

pub returns : goal.returns
returns c = base-bounded
