use Rattle.lot_laws.proofs.Served.{serves-server, serves-others, serves-together}
use Rattle.lot_laws.proofs.transfers.servings_transfer_value.Goals as goal

pub returns-clause-server : goal.returns-clause-server
returns-clause-server c = serves-server

pub returns-clause-others : goal.returns-clause-others
returns-clause-others c = serves-others

pub returns-clause-together : goal.returns-clause-together
returns-clause-together c = serves-together
