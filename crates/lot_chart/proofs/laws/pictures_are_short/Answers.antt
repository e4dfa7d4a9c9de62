use Rattle.lot_chart.proofs.Sizes.{chart-due, chart-marked, chart-plain}
use Rattle.lot_chart.proofs.laws.pictures_are_short.Goals as goal

pub returns-clause-marked : goal.returns-clause-marked
returns-clause-marked c = chart-marked

pub returns-clause-plain : goal.returns-clause-plain
returns-clause-plain c = chart-plain

pub returns-clause-due : goal.returns-clause-due
returns-clause-due c = chart-due
