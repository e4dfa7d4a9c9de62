use Rattle.lot_processors.proofs.Common.{Holder, None, slice_index_or, ℕ, ◌<◌, ◌≡◌}
use Rattle.lot_processors.proofs.workers.first_fault.Given as goal

-- no seat before the place has a fault, and the seats are as they were
abbrev pub invariant-loop-place : goal.invariant-loop-place
invariant-loop-place g l = (l.seats ≡ l.initial.seats)
    × ((k : ℕ) (d : Holder) → k < l.place → (slice_index_or l.seats k d).stopped ≡ None)
