use Rattle.lot_laws.proofs.AlikeRuns.{alike}
use Rattle.lot_laws.proofs.worked.inside.two_runs.Goals as goal

pub returns-clause-alike : goal.returns-clause-alike
returns-clause-alike c = alike
