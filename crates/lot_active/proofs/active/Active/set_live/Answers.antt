use Rattle.lot_active.proofs.Lemmas.{graph-net, graph-no_cycle, turn-lives, turn-low, turn-nodes}
use Rattle.lot_active.proofs.active.Active.set_live.Goals as goal

pub set_awake-requires : goal.set_awake-requires
set_awake-requires c =
    let (live, kept) = c.requires.kept in
    let low = turn-low c.args.graph.now live c.args.live c.args.thread c.list_of-node.result _ c.args.self.now
    c.self.view_is kept c.requires.thread c.list_of-node.ensures in
    record { node = low; graph = graph-net c.args.graph.now kept.fits; no_cycle = graph-no_cycle c.args.graph.now kept.fits kept.sound; kept = kept.kept }

pub returns-clause-kept : goal.returns-clause-kept
returns-clause-kept c = λ live kept low.
    turn-lives c.args.graph.now live c.args.live c.args.thread c.list_of-node.result _ c.args.self.now c.self.view_is
    kept c.requires.thread c.list_of-node.ensures c.set_awake.new.self low c.set_awake.ensures.layout
    c.set_awake.ensures.awake c.set_awake.ensures.kept

pub returns-clause-changes : goal.returns-clause-changes
returns-clause-changes c = λ live kept low.
    turn-nodes c.args.graph.now live c.args.live c.args.thread c.list_of-node.result _ c.args.self.now c.self.view_is
    kept c.requires.thread c.list_of-node.ensures c.set_awake.new.self low c.set_awake.ensures.layout
    c.set_awake.ensures.awake c.set_awake.ensures.kept c.set_awake.ensures.changes
