use Rattle.lot_station.specs.BatonSeats.{IsSeatOf}
use Rattle.lot_system_tests.proofs.tests.stations.baton.threads.play.Given as goal

abbrev pub invariant-loop-k : goal.invariant-loop-k
invariant-loop-k g l = IsSeatOf l.station l.seat
