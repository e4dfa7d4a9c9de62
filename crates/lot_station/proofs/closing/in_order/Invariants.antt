use Rattle.lot_station.proofs.Common.{Holder, Some, slice_get, ℕ, ◌<◌, ◌≡◌}
use Rattle.lot_station.proofs.closing.in_order.Given as goal

abbrev pub invariant-loop-k : goal.invariant-loop-k
invariant-loop-k g l = (j : ℕ) (s : Holder) → j < l.k → slice_get l.seats j ≡ Some s → s.actor ≡ j
