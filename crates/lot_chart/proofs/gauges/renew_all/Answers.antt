use Rattle.lot_chart.proofs.Lemmas.{Gauge, IsRenewed, refl, some-one, subst, sym}
use Rattle.lot_chart.proofs.gauges.renew_all.Goals as goal

pub loop-place-preserved : goal.loop-place-preserved
loop-place-preserved c =
    let was = c.index-gauges-place.result in
    let now = c.renew.new.self in
    let same = IsRenewed c.args.by c.args.settled.kernel.now.state in
    let renewed = subst (λ (g : Gauge). same g now) (sym c.index-gauges-place.is) c.renew.ensures in
    some-one same c.loop-place.place c.args.gauges.now c.loop-place.gauges _ was now c.loop-place-test.true
    c.index-gauges-place.is refl renewed c.loop-place.invariant
