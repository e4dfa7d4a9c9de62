use Rattle.lot_draw.proofs.Lotteries.{same-winner}
use Rattle.lot_draw.proofs.laws.who_weighs_nothing_is_left_out.Goals as goal

pub returns : goal.returns
returns c = same-winner
