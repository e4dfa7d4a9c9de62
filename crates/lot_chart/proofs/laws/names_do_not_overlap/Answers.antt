use Rattle.lot_chart.proofs.Places.{names-apart, names-within, shown-few}
use Rattle.lot_chart.proofs.laws.names_do_not_overlap.Goals as goal

pub returns-clause-few : goal.returns-clause-few
returns-clause-few c = shown-few

pub returns-clause-apart : goal.returns-clause-apart
returns-clause-apart c = names-apart

pub returns-clause-within : goal.returns-clause-within
returns-clause-within c = names-within
