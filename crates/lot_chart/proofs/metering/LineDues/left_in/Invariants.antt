use Rattle.lot_chart.proofs.Common.{grown_in, sum_by, take, tick_parts, ◌*◌, ◌-◌, ◌≡◌}
use Rattle.lot_chart.proofs.metering.LineDues.left_in.Given as goal

-- what the gauges passed so far leave
abbrev pub invariant-loop-gauge : goal.invariant-loop-gauge
invariant-loop-gauge l = l.left ≡ grown_in l.self.live l.sample * tick_parts - sum_by (λ gauge. grown_in gauge l.sample)
    (take l.gauge-index l.self.threads.items)
