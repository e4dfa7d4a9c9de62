use Rattle.lot_value.proofs.Differing.{covers-change}
use Rattle.lot_value.proofs.laws.listed_nodes_cover_the_change.Goals as goal

pub returns : goal.returns
returns c = covers-change
