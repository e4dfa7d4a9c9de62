use Rattle.lot_engine.proofs.Below.{below-reached}
use Rattle.lot_engine.proofs.laws.who_stands_below_is_reached.Goals as goal

pub returns : goal.returns
returns c = below-reached
