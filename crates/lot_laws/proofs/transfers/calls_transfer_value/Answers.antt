use Rattle.lot_laws.proofs.Lemmas.{funding_of, live_of, worth-nothing}
use Rattle.lot_laws.proofs.CallTaken.{server-gets, others-keep, together-same}
use Rattle.lot_laws.proofs.transfers.calls_transfer_value.Goals as goal

pub returns-clause-before : goal.returns-clause-before
returns-clause-before c s server order owns =
    worth-nothing (funding_of s) (live_of s) s.limits.unit server order.no_cycle owns.0 owns.1

pub returns-clause-server : goal.returns-clause-server
returns-clause-server c = server-gets

pub returns-clause-others : goal.returns-clause-others
returns-clause-others c = others-keep

pub returns-clause-together : goal.returns-clause-together
returns-clause-together c = together-same
