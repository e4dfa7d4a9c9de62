use Rattle.lot_chart.proofs.charts.push_height_mark.Goals as goal

pub returns : goal.returns
returns c = rw c.height_of.ensures.exact at c.push_axis_mark.ensures
