use Rattle.lot_chart.proofs.DueEnds.{live-ends, parts-end}
use Rattle.lot_chart.proofs.laws.dues_end_at_the_report.Goals as goal

pub returns-clause-live : goal.returns-clause-live
returns-clause-live c = live-ends

pub returns-clause-parts : goal.returns-clause-parts
returns-clause-parts c = parts-end
