use Rattle.lot_processors.proofs.Common.{None, Seat, slice_index_or, ℕ, ◌<◌, ◌≡◌}
use Rattle.lot_processors.proofs.baton_workers.first_fault.Given as goal

-- no seat before the place has a fault, and the seats are as they were
abbrev pub invariant-loop-place : goal.invariant-loop-place
invariant-loop-place l = (l.seats ≡ l.initial.seats)
    × ((k : ℕ) (d : Seat) → k < l.place → (slice_index_or l.seats k d).stopped ≡ None)
