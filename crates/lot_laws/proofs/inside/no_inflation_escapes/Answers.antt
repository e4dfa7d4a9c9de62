use Rattle.lot_laws.proofs.Lemmas.{compensated-within, run-within, ticks-within, value-within, weight-within, wins-weigh}
use Rattle.lot_laws.proofs.inside.no_inflation_escapes.Goals as goal

pub returns-clause-value : goal.returns-clause-value
returns-clause-value c s currency inside reachable user alone = value-within s reachable currency inside user alone

pub returns-clause-run : goal.returns-clause-run
returns-clause-run c = run-within

pub returns-clause-weight : goal.returns-clause-weight
returns-clause-weight c = weight-within

pub returns-clause-compensated : goal.returns-clause-compensated
returns-clause-compensated c = compensated-within

pub returns-clause-ticks : goal.returns-clause-ticks
returns-clause-ticks c = ticks-within

pub returns-clause-wins : goal.returns-clause-wins
returns-clause-wins c = wins-weigh
