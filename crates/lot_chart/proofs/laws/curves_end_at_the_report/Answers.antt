use Rattle.lot_chart.proofs.OwnTicks.{ends-at_report, ends-within_report}
use Rattle.lot_chart.proofs.laws.curves_end_at_the_report.Goals as goal

pub returns-clause-ends : goal.returns-clause-ends
returns-clause-ends c = ends-at_report

pub returns-clause-within : goal.returns-clause-within
returns-clause-within c = ends-within_report
