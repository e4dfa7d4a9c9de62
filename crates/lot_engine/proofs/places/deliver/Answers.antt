use Rattle.lot_engine.proofs.Lemmas.{place-same, sym}
use Rattle.lot_engine.proofs.places.deliver.Goals as goal

pub returns-in_default-clause-delivered : goal.returns-in_default-clause-delivered
returns-in_default-clause-delivered c =
    rw c.in_default.is (sym (place-same c.args.places.now.items c.args.thread c.requires))
