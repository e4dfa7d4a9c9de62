use Rattle.lot_laws.proofs.Lemmas.{compensation_of, rounds-keep, value_of, weighs-value}
use Rattle.lot_laws.proofs.rounds.rounds_keep_the_lottery.Goals as goal

pub returns-clause-plain : goal.returns-clause-plain
returns-clause-plain c s t plain = weighs-value (value_of s t) s.limits.quantum (compensation_of s t) plain

pub returns-clause-lottery : goal.returns-clause-lottery
returns-clause-lottery c s p draws between = (rounds-keep s p between draws).0

pub returns-clause-again : goal.returns-clause-again
returns-clause-again c s p draws between = (rounds-keep s p between draws).1
