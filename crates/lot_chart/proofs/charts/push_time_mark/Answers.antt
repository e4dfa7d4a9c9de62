use Rattle.lot_chart.proofs.charts.push_time_mark.Goals as goal

pub returns : goal.returns
returns c = rw (c.across.ensures, c.last.ensures.last, c.origin.ensures.origin) at c.push_axis_mark.ensures
