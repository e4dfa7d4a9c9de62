use Rattle.lot_simulation.proofs.ClocksAddUp.{clocks-add_up, clocks-within}
use Rattle.lot_simulation.proofs.laws.clocks_add_up.Goals as goal

pub returns-clause-sum : goal.returns-clause-sum
returns-clause-sum c program p bounds sorted there = clocks-add_up program p there.0 there.1 bounds sorted

pub returns-clause-within : goal.returns-clause-within
returns-clause-within c program p bounds sorted there = clocks-within program p there.0 there.1 bounds sorted
