use Rattle.lot_value.proofs.Unchanged.{stays-thread}
use Rattle.lot_value.proofs.valued_graph.ValuedGraph.add_thread.Goals as goal

pub invariant_of-self : goal.invariant_of-self
invariant_of-self c =
    let stays = stays-thread c.self.inside.graph c.add_thread.new.self c.self.inside.active c.self.inside.values
    c.self.invariant c.add_thread.ensures.added c.add_thread.ensures.sound c.add_thread.ensures.fits in
    stays.together

pub returns-clause-live : goal.returns-clause-live
returns-clause-live c =
    let stays = stays-thread c.self.inside.graph c.add_thread.new.self c.self.inside.active c.self.inside.values
    c.self.invariant c.add_thread.ensures.added c.add_thread.ensures.sound c.add_thread.ensures.fits in
    rw (← c.self.view_is) stays.live
