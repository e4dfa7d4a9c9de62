use Rattle.lot_chart.proofs.Lemmas.{label, parts-next, refl}
use Rattle.lot_chart.proofs.charts.push_labels.Goals as goal

pub loop-line-preserved : goal.loop-line-preserved
loop-line-preserved c =
    parts-next (label c.args.names.now c.args.total) c.args.lines.now c.loop-line.line-index _ _ c.args.text.now
    c.loop-line.text c.push_label.new.text c.loop-line-test.true refl c.loop-line.invariant c.in_ok-push_label.ensures
