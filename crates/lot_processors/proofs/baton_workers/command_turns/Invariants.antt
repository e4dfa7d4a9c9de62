use Rattle.lot_processors.proofs.Common.{HasMade, ◌≡◌}
use Rattle.lot_processors.proofs.baton_workers.command_turns.Given as goal

abbrev pub invariant-loop-turn : goal.invariant-loop-turn
invariant-loop-turn g l = (l.seat.stopped ≡ l.initial.seat.stopped) × HasMade l._turn l.initial.seat l.seat
