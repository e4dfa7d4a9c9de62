use Rattle.lot_chart.proofs.Common.{Gauge, List, ap, arith, get_or, grown_in, length, subst, sum_by, sum_by_more, sym, take, take_all, tick_parts, ℕ, ◌*◌, ◌+◌, ◌-◌, ◌<◌, ◌∙◌, ◌≡◌, ◌≤◌}
use Rattle.lot_chart.proofs.metering.LineDues.left_in.Goals as goal

-- one more is taken off
less : (a b c sum left : ℕ) → left ≡ a - b → sum ≡ b + c → left - c ≡ a - sum
less a b c sum left is more = omega (arith, is, more)

pub loop-gauge-preserved : goal.loop-gauge-preserved
loop-gauge-preserved c =
    let gauges = c.args.self.now.threads.items in
    let index = c.loop-gauge.gauge-index in
    let item = c.gauge-item.result in
    let same = c.deref-gauge-items.ensures.value in
    let grown = λ (gauge : Gauge). grown_in gauge c.args.sample in
    let there = subst (λ (gs : List Gauge). index < length gs) same c.loop-gauge-test.true in
    let is : item ≡ get_or gauges index item = c.gauge-item.is ∙ ap (λ (gs : List Gauge). get_or gs index item) same in
    let more = sum_by_more grown gauges index item there
    ∙ ap (λ (g : Gauge). sum_by grown (take index gauges) + grown g) (sym is) in
    c.saturating_sub-left.ensures ∙ ap (λ n. c.loop-gauge.left - n) c.grown_in.ensures
    ∙ less (grown_in c.args.self.now.live c.args.sample * tick_parts) (sum_by grown (take index gauges)) (grown item)
    (sum_by grown (take (index + 1) gauges)) c.loop-gauge.left c.loop-gauge.invariant more

pub returns-clause-left : goal.returns-clause-left
returns-clause-left c =
    let gauges = c.args.self.now.threads.items in
    let past = subst (λ (gs : List Gauge). length gs ≤ c.loop-gauge.gauge-index) c.deref-gauge-items.ensures.value
    c.loop-gauge-test.false in
    c.loop-gauge.invariant
    ∙ ap (λ (gs : List Gauge). grown_in c.args.self.now.live c.args.sample * tick_parts - sum_by
    (λ (gauge : Gauge). grown_in gauge c.args.sample) gs) (take_all c.loop-gauge.gauge-index gauges past)
