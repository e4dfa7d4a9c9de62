use Rattle.lot_laws.proofs.Lemmas.{fund-local, make-local, run-inside, set-changes-inside, set-local}
use Rattle.lot_laws.proofs.insulation.inflation_is_local.Goals as goal

pub returns-clause-fund : goal.returns-clause-fund
returns-clause-fund c = fund-local

pub returns-clause-make : goal.returns-clause-make
returns-clause-make c = make-local

pub returns-clause-set : goal.returns-clause-set
returns-clause-set c = set-local

pub returns-clause-set_inside : goal.returns-clause-set_inside
returns-clause-set_inside c = set-changes-inside

pub returns-clause-run : goal.returns-clause-run
returns-clause-run c s events currency inside reachable change before after =
    run-inside s events currency inside reachable change (λ some. after) (λ some. before)
