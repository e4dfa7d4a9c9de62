use Rattle.lot_chart.proofs.charts.push_window_label.Goals as goal

pub returns : goal.returns
returns c = rw c.from.ensures at c.push_number_within.ensures
