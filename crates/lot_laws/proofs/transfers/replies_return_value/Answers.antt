use Rattle.lot_laws.proofs.Lemmas.{caller-keeps, comes-alone, funding_of, live_of, server-returns, step, step-order, value_of, worth-nothing}
use Rattle.lot_laws.proofs.Replied.{others-keep, together-same}
use Rattle.lot_laws.proofs.transfers.replies_return_value.Goals as goal

pub returns-clause-server : goal.returns-clause-server
returns-clause-server c = server-returns

pub returns-clause-alone : goal.returns-clause-alone
returns-clause-alone c s e caller server order lends replies owns =
    comes-alone (value_of s server) (value_of (step s e).state server) (value_of s caller)
    (server-returns s e caller server order lends replies)
    (worth-nothing (funding_of (step s e).state) (live_of (step s e).state) (step s e).state.limits.unit server
    (step-order s e order).no_cycle owns.0 owns.1)

pub returns-clause-caller : goal.returns-clause-caller
returns-clause-caller c = caller-keeps

pub returns-clause-others : goal.returns-clause-others
returns-clause-others c = others-keep

pub returns-clause-together : goal.returns-clause-together
returns-clause-together c = together-same
