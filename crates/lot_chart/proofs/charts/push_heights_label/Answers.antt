use Rattle.lot_chart.proofs.Lemmas.{lines_label, measure_label, on_ok_weaker, parts-two}
use Rattle.lot_chart.proofs.charts.push_heights_label.Goals as goal

pub returns : goal.returns
returns c =
    on_ok_weaker c.push_measure_label.result
    (parts-two c.args.text.now (lines_label c.args.by) (measure_label c.args.window) c.push.new.self
    c.push_measure_label.new.text (rw c.lines_label.ensures at c.in_ok-push.ensures))
    c.push_measure_label.ensures
