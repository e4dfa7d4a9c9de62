use Rattle.lot_chart.proofs.Common.{Due, Gauge, IsNew, Standing, length, slice_index_or, ℕ, ◌<◌, ◌≡◌}
use Rattle.lot_chart.proofs.metering.gauges_of.Given as goal

-- there is a gauge for each line passed so far
abbrev pub invariant-loop-standing : goal.invariant-loop-standing
invariant-loop-standing l = record {
  count : length l.gauges.items ≡ l.standing-index;
  each : (place : ℕ) (d : Gauge) (e : Standing) → place < l.standing-index
      → IsNew (Due (slice_index_or l.shown place e).thread 0) (slice_index_or l.gauges.items place d);
}
