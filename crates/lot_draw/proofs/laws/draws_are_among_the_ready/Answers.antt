use Rattle.lot_draw.proofs.Lemmas.{ready-drawn, value_of}
use Rattle.lot_draw.proofs.laws.draws_are_among_the_ready.Goals as goal

pub returns : goal.returns
returns c s competitors are = ready-drawn s.records s.limits.quantum (value_of s) competitors are
