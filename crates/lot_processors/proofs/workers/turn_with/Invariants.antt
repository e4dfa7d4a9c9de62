use Rattle.lot_processors.proofs.Common.{AtSome, IsWorkOf, ◌≡◌}
use Rattle.lot_processors.proofs.workers.turn_with.Given as goal

-- a refused turn leaves the seat, and the work is the actor's after some legal history
abbrev pub invariant-loop : goal.invariant-loop
invariant-loop g l = (l.seat ≡ l.initial.seat) × AtSome l.station (λ x. IsWorkOf x l.seat.actor l.work)
