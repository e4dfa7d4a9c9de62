use Rattle.lot_laws.proofs.Lemmas.{rounds-binomial, rounds-wins}
use Rattle.lot_laws.proofs.rounds.rounds_are_won_by_value.Goals as goal

pub returns-clause-draws : goal.returns-clause-draws
returns-clause-draws c s p t draws between = rounds-wins s p between t draws

pub returns-clause-binomial : goal.returns-clause-binomial
returns-clause-binomial c s p t n k between ready = rounds-binomial s p between t ready n k
