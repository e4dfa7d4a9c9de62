use Rattle.lot_laws.proofs.ServingGathers.{server-gathers, others-stay, together-stays}
use Rattle.lot_laws.proofs.transfers.servings_gather_the_queue.Goals as goal

pub returns-clause-server : goal.returns-clause-server
returns-clause-server c s e port caller next server reachable lends serves_next =
    server-gathers s e port caller next server reachable lends serves_next

pub returns-clause-others : goal.returns-clause-others
returns-clause-others c s e port caller next server other reachable lends serves_next =
    others-stay s e port caller next server reachable lends serves_next other

pub returns-clause-together : goal.returns-clause-together
returns-clause-together c s e port caller next server reachable lends serves_next =
    together-stays s e port caller next server reachable lends serves_next
