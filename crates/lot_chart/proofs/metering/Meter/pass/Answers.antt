use Rattle.lot_chart.proofs.Common.{Gauge, HaveAllPassed, List, drop, length, on_ok_weaker, refl, subst, sym, take, take_at, ◌++◌, ◌∙◌, ◌≡◌}
use Rattle.lot_chart.proofs.metering.Meter.pass.Goals as goal

pub returns : goal.returns
returns c =
    let meter = c.args.self.now in
    let old = meter.threads.items in
    let new = c.pass_all.new.gauges in
    let whole : take meter.threads.len (new ++ drop (length new) old) ≡ new =
    take_at new (drop (length new) old) meter.threads.len (c.pass_all.auto.gauges ∙ c.as_mut_slice.ensures.len) in
    on_ok_weaker c.pass_all.result
    (λ all. record {
      by = refl;
      marks = refl;
      time = refl;
      value = refl;
      live = c.in_ok-pass.ensures;
      threads = subst (λ (gs : List Gauge). HaveAllPassed meter.marks meter.whole_value meter.time c.args.time gs
          (take meter.threads.len (new ++ drop (length new) old))) c.as_mut_slice.ensures.value
          (subst (λ (gs : List Gauge). HaveAllPassed meter.marks meter.whole_value meter.time c.args.time
          c.as_mut_slice.result.now gs) (sym whole) all);
    })
    c.pass_all.ensures
