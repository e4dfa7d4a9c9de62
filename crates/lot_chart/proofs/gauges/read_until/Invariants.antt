use Rattle.lot_chart.proofs.Common.{HaveRead, flow_at, length, ◌≡◌}
use Rattle.lot_chart.proofs.gauges.read_until.Given as goal

-- the sum was read at the ticks passed so far
abbrev pub invariant-loop-place : goal.invariant-loop-place
invariant-loop-place l =
    record { have : HaveRead (flow_at l.flow) l.ticks l.time l.initial.read.items l.read.items; count : length l.read.items ≡ l.place }
