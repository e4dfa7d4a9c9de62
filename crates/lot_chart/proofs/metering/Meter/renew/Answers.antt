use Rattle.lot_chart.proofs.Common.{AreRenewed, Gauge, List, Seen, drop, length, refl, subst, sym, take, take_at, world_of, ◌++◌, ◌∙◌, ◌≡◌}
use Rattle.lot_chart.proofs.metering.Meter.renew.Goals as goal

pub renew_all-requires-clause-sound : goal.renew_all-requires-clause-sound
renew_all-requires-clause-sound c = rw (c.settle.ensures.state, c.whole_value-self.ensures.same) c.requires.sound

pub returns-clause-renewed : goal.returns-clause-renewed
returns-clause-renewed c =
    let meter = c.args.self.now in
    let old = meter.threads.items in
    let new = c.renew_all.new.gauges in
    let state = (world_of c.args.system.now).state in
    let whole : take meter.threads.len (new ++ drop (length new) old) ≡ new =
    take_at new (drop (length new) old) meter.threads.len (c.renew_all.auto.gauges ∙ c.as_mut_slice.ensures.len) in
    let all = subst (λ (s : Seen). AreRenewed meter.by (world_of s).state c.as_mut_slice.result.now new)
    c.whole_value-self.ensures.same (rw c.settle.ensures.state at c.renew_all.ensures) in
    record {
      by = refl;
      marks = refl;
      time = refl;
      value = c.whole_value-self.ensures.value;
      small = c.whole_value-self.ensures.small;
      live = refl;
      threads = subst (λ (gs : List Gauge). AreRenewed meter.by state gs
          (take meter.threads.len (new ++ drop (length new) old))) c.as_mut_slice.ensures.value
          (subst (λ (gs : List Gauge). AreRenewed meter.by state c.as_mut_slice.result.now gs) (sym whole) all);
    }
