use Rattle.lot_chart.proofs.TableSizes.{table-short}
use Rattle.lot_chart.proofs.laws.tables_are_short.Goals as goal

pub returns : goal.returns
returns c = table-short
