use Rattle.lot_active.proofs.Lemmas.{graph_net, turn-changes, turn-kept, turn-spreads}
use Rattle.lot_active.proofs.active.Active.set_awake.Goals as goal

pub propagate-requires-clause-spreading : goal.propagate-requires-clause-spreading
propagate-requires-clause-spreading c =
    (c.args.node, c.clear.new.self, turn-spreads (graph_net c.args.graph.now) c.args.awake c.args.node _ c.args.self.now c.self.view_is c.requires.kept c.requires.node c.clear.new.self c.set_awake.new.self c.clear.ensures.awake c.clear.ensures.amounts c.clear.ensures.empty c.clear.ensures.sized c.set_awake.ensures.sets)

pub returns-clause-kept : goal.returns-clause-kept
returns-clause-kept c =
    turn-kept (graph_net c.args.graph.now) c.args.awake c.args.node _ c.args.self.now c.self.view_is c.requires.kept
    c.requires.node c.clear.new.self c.set_awake.new.self c.clear.ensures.awake c.clear.ensures.amounts
    c.clear.ensures.empty c.clear.ensures.sized c.set_awake.ensures.sets
    c.propagate.new.self (c.propagate.ensures.spreads _ _) c.propagate.ensures.pending c.propagate.ensures.sized
    c.self.inside.layout c.requires.graph c.requires.no_cycle c.propagate.ensures.size

pub returns-clause-changes : goal.returns-clause-changes
returns-clause-changes c =
    turn-changes (graph_net c.args.graph.now) c.args.awake c.args.node _ c.args.self.now c.self.view_is c.requires.kept
    c.requires.node c.clear.new.self c.set_awake.new.self c.clear.ensures.awake c.clear.ensures.amounts
    c.clear.ensures.empty c.clear.ensures.sized c.set_awake.ensures.sets
    c.propagate.new.self
    (c.propagate.ensures.spreads _ _) c.propagate.ensures.pending c.propagate.ensures.sized c.self.inside.layout
