use Rattle.lot_laws.proofs.QueueGathers.{server-gathers, others-stay, together-stays}
use Rattle.lot_laws.proofs.transfers.receipts_gather_the_queue.Goals as goal

pub returns-clause-server : goal.returns-clause-server
returns-clause-server c s e port caller server reachable lends takes =
    server-gathers s e port caller server reachable lends takes

pub returns-clause-others : goal.returns-clause-others
returns-clause-others c s e port caller server other reachable lends takes =
    others-stay s e port caller server reachable lends takes other

pub returns-clause-together : goal.returns-clause-together
returns-clause-together c s e port caller server reachable lends takes =
    together-stays s e port caller server reachable lends takes
