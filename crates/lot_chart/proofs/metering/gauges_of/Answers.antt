use Rattle.lot_chart.proofs.Lemmas.{Standing, ap, arith, get_or_default, new-one}
use Rattle.lot_chart.proofs.metering.gauges_of.Goals as goal

pub loop-standing-preserved : goal.loop-standing-preserved
loop-standing-preserved c =
    let i = c.loop-standing.invariant in
    let index = c.loop-standing.standing-index in
    record {
      count = omega (arith, c.in_ok-push.ensures.len, i.count);
      each = new-one c.args.shown.now c.loop-standing.gauges.items c.push.new.self.items index c.new.result _
          c.in_ok-push.ensures.items i.count
          (record { growth_is = c.new.ensures.growth; sum = c.new.ensures.none; starts = c.new.ensures.starts; ends = c.new.ensures.ends })
          (λ e. ap (λ (s : Standing). s.thread) (get_or_default c.args.shown.now index _ e c.loop-standing-test.true))
          i.each;
    }
