use Rattle.lot_laws.proofs.Lemmas.{rounds-all, rounds-mean, rounds-ticks}
use Rattle.lot_laws.proofs.rounds.rounds_give_ticks_by_value.Goals as goal

pub returns-clause-ticks : goal.returns-clause-ticks
returns-clause-ticks c s p t draws between = rounds-ticks s p between t draws

pub returns-clause-all : goal.returns-clause-all
returns-clause-all c s p t n between ready = rounds-all s p between t ready n

pub returns-clause-mean : goal.returns-clause-mean
returns-clause-mean c s p t n between ready = rounds-mean s p between t ready n
