use Rattle.lot_machine.proofs.Lemmas.{HasNoCycle-lends, HasNoCycle-lends_more, HasNoCycle-lends_nobody, HasNoCycle-lends_tested, Nobody, refl}
use Rattle.lot_machine.proofs.kept.lends_keep.Goals as goal

pub returns-clause-nobody : goal.returns-clause-nobody
returns-clause-nobody c = λ f t. HasNoCycle-lends_nobody f t Nobody refl

pub returns-clause-no_cycle : goal.returns-clause-no_cycle
returns-clause-no_cycle c = HasNoCycle-lends

pub returns-clause-tested : goal.returns-clause-tested
returns-clause-tested c = HasNoCycle-lends_tested

pub returns-clause-one_more : goal.returns-clause-one_more
returns-clause-one_more c = HasNoCycle-lends_more
