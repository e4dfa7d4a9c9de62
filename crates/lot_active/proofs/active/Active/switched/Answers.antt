use Rattle.lot_active.proofs.Common.{Activity, Layout, ap, map, node_of, walk-short, ◌∙◌}
use Rattle.lot_active.proofs.active.Active.switched.Goals as goal

pub returns-clause-nodes : goal.returns-clause-nodes
returns-clause-nodes c = λ w live kept.
    ap (map (node_of c.self.inside.layout)) c.switched.ensures
    ∙ ap (λ (v : Activity). map (node_of v.layout) v.switched) c.self.view_is
    ∙ ap (λ (l : Layout). map (node_of l) c.args.self.now.switched) kept.layout

pub returns-clause-count : goal.returns-clause-count
returns-clause-count c = walk-short (node_of c.self.inside.layout) c.self.inside.marks.lists 1 c.switched.result
    c.self.invariant.sized.consistent c.switched.ensures
