use Rattle.lot_laws.proofs.SetTwice.{set-one}
use Rattle.lot_laws.proofs.TwoRuns.{both-draw, one-start, runs-kept, same-kept}
use Rattle.lot_laws.proofs.TwoStates.{agrees, same-totals, same-wins}
use Rattle.lot_laws.proofs.inside.currencies_dont_interfere.Goals as goal

pub returns-clause-agree : goal.returns-clause-agree
returns-clause-agree c = agrees

pub returns-clause-total : goal.returns-clause-total
returns-clause-total c = same-totals

pub returns-clause-wins : goal.returns-clause-wins
returns-clause-wins c = same-wins

pub returns-clause-draws : goal.returns-clause-draws
returns-clause-draws c s u currency inside e d = both-draw currency inside s u e d

pub returns-clause-set_inside : goal.returns-clause-set_inside
returns-clause-set_inside c = set-one

pub returns-clause-events : goal.returns-clause-events
returns-clause-events c s u currency inside e d reachable reachable_too is same =
    (same-kept currency inside s u e d reachable reachable_too is same).0

pub returns-clause-replies : goal.returns-clause-replies
returns-clause-replies c s u currency inside e d reachable reachable_too is same =
    (same-kept currency inside s u e d reachable reachable_too is same).1

pub returns-clause-runs : goal.returns-clause-runs
returns-clause-runs c s u currency inside pairs = runs-kept currency inside s u pairs

pub returns-clause-from_one : goal.returns-clause-from_one
returns-clause-from_one c = one-start
