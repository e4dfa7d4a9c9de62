use Rattle.lot_value.proofs.Lemmas.{Nobody, follows-none, lend-kept, refl}
use Rattle.lot_value.proofs.relending.unlend.Goals as goal

pub returns-else-not-lends : goal.returns-else-not-lends
returns-else-not-lends c =
    record { follows = follows-none c.args.graph.now _ (lend-kept c.args.graph.now.now c.args.thread Nobody (c.if-not-lends.ensures.0 refl)) }
