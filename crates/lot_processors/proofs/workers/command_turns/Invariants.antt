use Rattle.std.proofs.Common.{◌≡◌}
use Rattle.lot_processors.specs.Workers.{HasMade}
use Rattle.lot_processors.proofs.workers.command_turns.Given as goal

abbrev pub invariant-loop-turn : goal.invariant-loop-turn
invariant-loop-turn g l = (l.seat.stopped ≡ l.initial.seat.stopped) × HasMade l.station l._turn l.initial.seat l.seat
