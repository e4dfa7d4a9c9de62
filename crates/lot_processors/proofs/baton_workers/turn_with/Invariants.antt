use Rattle.lot_processors.proofs.Common.{HasMade, IsLegalIn, IsWorkOf, ◌≡◌}
use Rattle.lot_processors.proofs.baton_workers.turn_with.Given as goal

-- a refused turn makes none, and the work is the actor's in the history that the seat has seen
abbrev pub invariant-loop : goal.invariant-loop
invariant-loop g l =
    (l.seat.stopped ≡ l.initial.seat.stopped) × HasMade 0 l.initial.seat l.seat
    × (l.seat.station ≡ l.initial.seat.station)
    × IsLegalIn l.seat.seen × IsWorkOf l.seat.seen l.seat.actor l.work
