use Rattle.lot_script.proofs.OnePlace.{one-place, some-place}
use Rattle.lot_script.proofs.laws.places_are_exact.Goals as goal

pub returns-clause-one : goal.returns-clause-one
returns-clause-one c lines place other = one-place lines place other

pub returns-clause-each : goal.returns-clause-each
returns-clause-each c = some-place
