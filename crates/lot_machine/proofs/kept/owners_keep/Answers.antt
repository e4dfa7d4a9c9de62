use Rattle.lot_machine.proofs.LendsKept.{HasNoCycle-freed, HasNoCycle-owned}
use Rattle.lot_machine.proofs.kept.owners_keep.Goals as goal

pub returns-clause-freed : goal.returns-clause-freed
returns-clause-freed c = HasNoCycle-freed

pub returns-clause-owned : goal.returns-clause-owned
returns-clause-owned c = HasNoCycle-owned
