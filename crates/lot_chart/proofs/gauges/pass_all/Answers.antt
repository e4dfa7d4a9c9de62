use Rattle.lot_chart.proofs.Lemmas.{Gauge, HasPassed, refl, some-one, subst, sym}
use Rattle.lot_chart.proofs.gauges.pass_all.Goals as goal

pub loop-place-preserved : goal.loop-place-preserved
loop-place-preserved c =
    let was = c.index-gauges-place.result in
    let passed = subst (λ (g : Gauge). HasPassed c.args.marks.now c.args.whole_value c.args.since c.args.time g
    c.pass.new.self) (sym c.index-gauges-place.is) c.in_ok-pass.ensures in
    some-one (HasPassed c.args.marks.now c.args.whole_value c.args.since c.args.time) c.loop-place.place
    c.args.gauges.now c.loop-place.gauges _ was c.pass.new.self c.loop-place-test.true c.index-gauges-place.is refl
    passed c.loop-place.invariant
