use Rattle.lot_value.proofs.Lemmas.{Known, Layout, MarksNodes, ap, layout_of, map, marks-nodes, node-within, node_of, nodes_of, refl, subst, sym, touch-exact, touch-right, ◌∙◌}
use Rattle.lot_value.proofs.values.Values.touch.Goals as goal

marks : (c : goal.After-mark)
    → MarksNodes c.args.graph.now.funding (map (node_of c.self.inside.layout) (nodes_of c.self.inside.stale 0))
    (map (node_of c.self.inside.layout) (nodes_of c.mark.new.stale 0)) c.args.node
marks c =
    let w = c.args.graph.now in
    let f = w.funding in
    let old = nodes_of c.self.inside.stale 0 in
    let new = nodes_of c.mark.new.stale 0 in
    let layout = ap (λ (k : Known). k.layout) c.self.view_is ∙ c.requires.layout in
    subst (λ (l : Layout). MarksNodes f (map (node_of l) old) (map (node_of l) new) c.args.node) (sym layout)
    (marks-nodes (layout_of w) f old new c.args.node c.mark.ensures.fits
    (node-within w c.args.node c.requires.node) c.mark.ensures.marks)

pub returns-clause-right : goal.returns-clause-right
returns-clause-right c = rw (← c.self.view_is)
    (λ live others has. touch-right c.args.graph.now live _ _ c.args.node refl (marks c) has others)

pub returns-clause-kept : goal.returns-clause-kept
returns-clause-kept c = rw (← c.self.view_is) (marks c).kept

pub returns-clause-only : goal.returns-clause-only
returns-clause-only c = rw (← c.self.view_is) (marks c).only

pub returns-clause-exact : goal.returns-clause-exact
returns-clause-exact c =
    rw (← c.self.view_is) (λ live has. touch-exact c.args.graph.now live _ _ c.args.node refl (marks c) has)

pub returns-clause-marked : goal.returns-clause-marked
returns-clause-marked c = (marks c).marked
