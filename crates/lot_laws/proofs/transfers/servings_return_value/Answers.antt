use Rattle.lot_laws.proofs.Served.{waits-server, waits-others, waits-together}
use Rattle.lot_laws.proofs.transfers.servings_return_value.Goals as goal

pub returns-clause-server : goal.returns-clause-server
returns-clause-server c = waits-server

pub returns-clause-others : goal.returns-clause-others
returns-clause-others c = waits-others

pub returns-clause-together : goal.returns-clause-together
returns-clause-together c = waits-together
