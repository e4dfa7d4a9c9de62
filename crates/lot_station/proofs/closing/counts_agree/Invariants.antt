use Rattle.lot_station.proofs.Common.{Holder, Some, slice_get, times_in, ℕ, ◌<◌, ◌≡◌}
use Rattle.lot_station.proofs.closing.counts_agree.Given as goal

abbrev pub invariant-loop-seat : goal.invariant-loop-seat
invariant-loop-seat g l =
    (j : ℕ) (s : Holder) → j < l.seat-index → slice_get l.seats j ≡ Some s → s.turns ≡ times_in l.system s.actor
