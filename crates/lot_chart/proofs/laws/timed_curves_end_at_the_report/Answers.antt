use Rattle.lot_chart.proofs.OwnTicks.{timed-ends-at_report, timed-ends-within_report}
use Rattle.lot_chart.proofs.laws.timed_curves_end_at_the_report.Goals as goal

pub returns-clause-ends : goal.returns-clause-ends
returns-clause-ends c = timed-ends-at_report

pub returns-clause-within : goal.returns-clause-within
returns-clause-within c = timed-ends-within_report
