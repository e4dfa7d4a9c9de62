use Rattle.lot_laws.proofs.Lemmas.{comes-alone, funding_of, live_of, refl, step, value_of, worth-nothing, []}
use Rattle.lot_laws.proofs.MutexWait.{leads-gets, others-keep, together-same}
use Rattle.lot_laws.proofs.transfers.waits_transfer_value.Goals as goal

pub returns-clause-owner : goal.returns-clause-owner
returns-clause-owner c s e t owner order lends waits may backed =
    leads-gets s e t owner owner order lends waits may backed ([], refl)

pub returns-clause-alone : goal.returns-clause-alone
returns-clause-alone c s e t owner order lends waits may backed owns =
    comes-alone (value_of (step s e).state owner) (value_of s owner) (value_of s t)
    (leads-gets s e t owner owner order lends waits may backed ([], refl))
    (worth-nothing (funding_of s) (live_of s) s.limits.unit owner order.no_cycle owns.0 owns.1)

pub returns-clause-behind : goal.returns-clause-behind
returns-clause-behind c = leads-gets

pub returns-clause-others : goal.returns-clause-others
returns-clause-others c = others-keep

pub returns-clause-together : goal.returns-clause-together
returns-clause-together c = together-same
