use Rattle.lot_laws.proofs.AllDraws.{draws-once, draws-many}
use Rattle.lot_laws.proofs.fairness.all_draws_are_there.Goals as goal

pub returns-clause-once : goal.returns-clause-once
returns-clause-once c = draws-once

pub returns-clause-count : goal.returns-clause-count
returns-clause-count c = draws-many
