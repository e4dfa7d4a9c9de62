use Rattle.lot_chart.proofs.Lemmas.{arith, due_curve, length, parts-next, refl, ◌<◌}
use Rattle.lot_chart.proofs.due_lines.push_lines.Goals as goal

pub push_due_curve-requires-clause-due : goal.push_due_curve-requires-clause-due
push_due_curve-requires-clause-due c =
    let (due, shown, are, lines) = c.requires.due in
    (due, shown, are, lines.each c.loop-place.place _ (omega (arith, c.loop-place-test.true)))

pub loop-place-preserved : goal.loop-place-preserved
loop-place-preserved c due shown are lines =
    let place = c.loop-place.place in
    let below : place < length c.args.lines.now = omega (arith, c.loop-place-test.true) in
    parts-next (due_curve c.args.curves.now due shown c.args.tops.now) c.args.lines.now place _ _ c.args.text.now
    c.loop-place.text c.push_due_curve.new.text below refl (c.loop-place.invariant due shown are lines)
    (c.in_ok-push_due_curve.ensures due shown are (lines.each place _ below))
