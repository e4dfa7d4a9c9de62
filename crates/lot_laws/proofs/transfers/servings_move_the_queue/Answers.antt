use Rattle.lot_laws.proofs.Lemmas.{inl, inr, own-keeps, server-frees}
use Rattle.lot_laws.proofs.ServingMoves.{server-gains, server-keeps, behind-loses, others-keep, together-same}
use Rattle.lot_laws.proofs.transfers.servings_move_the_queue.Goals as goal

pub returns-clause-own : goal.returns-clause-own
returns-clause-own c = own-keeps

pub returns-clause-gains : goal.returns-clause-gains
returns-clause-gains c s e port caller next server before order lends serves_next serves backed (inl off) =
    server-gains s e port caller next server before order lends serves_next serves backed off
returns-clause-gains c s e port caller next server before order lends serves_next serves backed (inr on) =
    server-frees s e port caller next server before order lends serves_next serves backed on

pub returns-clause-keeps : goal.returns-clause-keeps
returns-clause-keeps c s e port caller next server before order lends serves_next serves backed =
    server-keeps s e port caller next server before order lends serves_next serves backed

pub returns-clause-loses : goal.returns-clause-loses
returns-clause-loses c s e port caller next server before behind order lends serves_next serves backed =
    behind-loses s e port caller next server before order lends serves_next serves backed behind

pub returns-clause-others : goal.returns-clause-others
returns-clause-others c s e port caller next server before other order lends serves_next serves backed =
    others-keep s e port caller next server before order lends serves_next serves backed other

pub returns-clause-together : goal.returns-clause-together
returns-clause-together c s e port caller next server before order lends serves_next serves backed =
    together-same s e port caller next server before order lends serves_next serves backed
