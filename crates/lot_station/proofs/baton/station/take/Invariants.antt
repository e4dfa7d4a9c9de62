use Rattle.lot_station.proofs.Common.{IsPassOf, view, ◌≡◌}
use Rattle.lot_station.proofs.baton.station.take.Given as goal

abbrev pub invariant-loop : goal.invariant-loop
invariant-loop g l = IsPassOf l.queue l.pass × (view l.pass ≡ view l.initial.pass)
