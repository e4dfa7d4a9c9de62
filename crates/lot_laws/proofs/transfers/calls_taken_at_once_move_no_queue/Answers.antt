use Rattle.lot_laws.proofs.CallAlone.{server-gets, others-keep, together-same}
use Rattle.lot_laws.proofs.transfers.calls_taken_at_once_move_no_queue.Goals as goal

pub returns-clause-server : goal.returns-clause-server
returns-clause-server c = server-gets

pub returns-clause-others : goal.returns-clause-others
returns-clause-others c = others-keep

pub returns-clause-together : goal.returns-clause-together
returns-clause-together c = together-same
