use Rattle.lot_laws.proofs.Lemmas.{slices-all, slices-share}
use Rattle.lot_laws.proofs.rounds.slices_give_ticks_by_value.Goals as goal

pub returns-clause-all : goal.returns-clause-all
returns-clause-all c slices s p t n between ready = slices-all slices s p between t ready n

pub returns-clause-value : goal.returns-clause-value
returns-clause-value c slices s p t between ready = slices-share slices s p between t ready
