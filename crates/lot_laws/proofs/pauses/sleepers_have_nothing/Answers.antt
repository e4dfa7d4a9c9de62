use Rattle.lot_laws.proofs.Sleepers.{sleeper-lends, sleeper-worth, sleeper-tickets}
use Rattle.lot_laws.proofs.pauses.sleepers_have_nothing.Goals as goal

pub returns-clause-lends : goal.returns-clause-lends
returns-clause-lends c = sleeper-lends

pub returns-clause-worth : goal.returns-clause-worth
returns-clause-worth c s t order sleeps = sleeper-worth s t sleeps order

pub returns-clause-tickets : goal.returns-clause-tickets
returns-clause-tickets c s t ticket order sleeps funds = sleeper-tickets s t sleeps order ticket funds
