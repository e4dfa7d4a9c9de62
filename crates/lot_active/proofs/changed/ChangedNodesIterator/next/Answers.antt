use Rattle.lot_active.proofs.Common.{all-rest, node_count, ◌<◌}
use Rattle.lot_active.proofs.changed.ChangedNodesIterator.next.Goals as goal

pub invariant_of-self-2 : goal.invariant_of-self-2
invariant_of-self-2 c = all-rest (λ place. place < node_count c.self.inside.layout) c.self.inside.places
    c.in_ok-place.place c.next.new.self c.in_ok-place.ensures.steps c.self.invariant
