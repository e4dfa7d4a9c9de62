use Rattle.lot_chart.proofs.Lemmas.{curve, parts-next, refl}
use Rattle.lot_chart.proofs.charts.push_curves.Goals as goal

pub loop-line-preserved : goal.loop-line-preserved
loop-line-preserved c =
    parts-next (curve c.args.curves.now c.args.others.now c.args.tops.now) c.args.lines.now c.loop-line.line-index _ _
    c.args.text.now c.loop-line.text c.push_curve.new.text c.loop-line-test.true refl c.loop-line.invariant
    c.in_ok-push_curve.ensures
