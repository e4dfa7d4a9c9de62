use Rattle.lot_laws.proofs.Lemmas.{reachable-order, reachable-run, well-formed}
use Rattle.lot_laws.proofs.reachable.reachable_states_meet_the_premises.Goals as goal

pub returns-clause-in_order : goal.returns-clause-in_order
returns-clause-in_order c = reachable-order

pub returns-clause-well_formed : goal.returns-clause-well_formed
returns-clause-well_formed c = well-formed

pub returns-clause-run : goal.returns-clause-run
returns-clause-run c = reachable-run
