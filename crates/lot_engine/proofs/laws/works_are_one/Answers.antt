use Rattle.lot_engine.proofs.WorkFacts.{one-work, fresh-matches}
use Rattle.lot_engine.proofs.laws.works_are_one.Goals as goal

pub returns-clause-one : goal.returns-clause-one
returns-clause-one c = one-work

pub returns-clause-fresh : goal.returns-clause-fresh
returns-clause-fresh c = fresh-matches

pub returns-clause-never_stale : goal.returns-clause-never_stale
returns-clause-never_stale c seen actor work other given is matches fault =
    fault.1 (fresh-matches seen actor other given fault.0 (work, is, matches))
