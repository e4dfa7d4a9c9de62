use Rattle.lot_laws.proofs.QueueMoves.{server-gains, server-keeps, behind-loses, others-keep, together-same}
use Rattle.lot_laws.proofs.transfers.receipts_move_the_queue.Goals as goal

pub returns-clause-gains : goal.returns-clause-gains
returns-clause-gains c s e port caller server before order lends takes serves backed =
    server-gains s e port caller server before order lends takes serves backed

pub returns-clause-keeps : goal.returns-clause-keeps
returns-clause-keeps c s e port caller server before order lends takes serves backed =
    server-keeps s e port caller server before order lends takes serves backed

pub returns-clause-loses : goal.returns-clause-loses
returns-clause-loses c s e port caller server before behind order lends takes serves backed =
    behind-loses s e port caller server before order lends takes serves backed behind

pub returns-clause-others : goal.returns-clause-others
returns-clause-others c s e port caller server before other order lends takes serves backed =
    others-keep s e port caller server before order lends takes serves backed other

pub returns-clause-together : goal.returns-clause-together
returns-clause-together c s e port caller server before order lends takes serves backed =
    together-same s e port caller server before order lends takes serves backed
