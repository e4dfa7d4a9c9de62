use Rattle.lot_station.proofs.Common.{Seat, Some, slice_get, ℕ, ◌<◌, ◌≡◌}
use Rattle.lot_station.proofs.baton.station.in_order.Given as goal

abbrev pub invariant-loop-k : goal.invariant-loop-k
invariant-loop-k l = (j : ℕ) (s : Seat) → j < l.k → slice_get l.seats j ≡ Some s → s.actor ≡ j
