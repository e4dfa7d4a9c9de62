use Rattle.lot_processors.proofs.Common.{HasMade, IsLegalIn, IsWorkOf, ◌≡◌}
use Rattle.lot_processors.proofs.baton_workers.processor_turns.Given as goal

abbrev pub invariant-loop-made : goal.invariant-loop-made
invariant-loop-made g l =
    (l.seat.stopped ≡ l.initial.seat.stopped) × HasMade l.made l.initial.seat l.seat
    × IsLegalIn l.seat.seen × IsWorkOf l.seat.seen l.seat.actor l.work
