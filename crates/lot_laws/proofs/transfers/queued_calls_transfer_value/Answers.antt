use Rattle.lot_laws.proofs.Lemmas.{comes-alone, funding_of, live_of, step, value_of, worth-nothing}
use Rattle.lot_laws.proofs.CallQueued.{server-gets, others-keep, together-same}
use Rattle.lot_laws.proofs.transfers.queued_calls_transfer_value.Goals as goal

pub returns-clause-server : goal.returns-clause-server
returns-clause-server c = server-gets

pub returns-clause-alone : goal.returns-clause-alone
returns-clause-alone c s e next caller server order lends queues takes owns =
    comes-alone (value_of (step (step s e).state next).state server) (value_of s server) (value_of s caller)
    (server-gets s e next caller server order lends queues takes)
    (worth-nothing (funding_of s) (live_of s) s.limits.unit server order.no_cycle owns.0 owns.1)

pub returns-clause-others : goal.returns-clause-others
returns-clause-others c = others-keep

pub returns-clause-together : goal.returns-clause-together
returns-clause-together c = together-same
