use Rattle.lot_laws.proofs.CallLends.{server-gets, leads-gets, others-keep, together-same}
use Rattle.lot_laws.proofs.transfers.queued_calls_lend.Goals as goal

pub returns-clause-server : goal.returns-clause-server
returns-clause-server c = server-gets

pub returns-clause-behind : goal.returns-clause-behind
returns-clause-behind c = leads-gets

pub returns-clause-others : goal.returns-clause-others
returns-clause-others c = others-keep

pub returns-clause-together : goal.returns-clause-together
returns-clause-together c = together-same
