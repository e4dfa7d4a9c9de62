use Rattle.lot_processors.proofs.Common.{AtSome, IsWorkOf, ◌≡◌}
use Rattle.lot_processors.specs.Workers.{HasMade}
use Rattle.lot_processors.proofs.workers.processor_turns.Given as goal

abbrev pub invariant-loop-made : goal.invariant-loop-made
invariant-loop-made g l =
    (l.seat.stopped ≡ l.initial.seat.stopped) × HasMade l.station l.made l.initial.seat l.seat
    × AtSome l.station (λ x. IsWorkOf x l.seat.actor l.work)
