use Rattle.lot_graph.proofs.Lemmas.{Finds, FoundNodes, IsAbove, IsBack, IsFoundList, IsNodeWithin, ap, finds-above, found_nodes, layout_of, limits-within, subst, sym, ◌∙◌}
use Rattle.lot_graph.proofs.above.Above.find.Goals as goal

pub find-requires-clause-from : goal.find-requires-clause-from
find-requires-clause-from c = subst (λ l. IsNodeWithin l c.args.node) (sym c.layout.ensures.layout)
    (limits-within c.args.graph.now c.args.node c.requires.node)

pub returns-clause-above : goal.returns-clause-above
returns-clause-above c =
    let w = c.args.graph.now in
    let found = c.find.new.found in
    let layout_is = ap (λ (v : FoundNodes). v.layout) c.self.view_is ∙ c.requires.layout in
    let finds =
    subst (λ l. Finds l (IsBack w.funding) c.args.node found) c.layout.ensures.layout c.find.ensures.finds in
    let list = subst (λ l. IsFoundList l found) c.layout.ensures.layout c.find.ensures.list in
    subst (λ l. IsAbove w.funding c.args.node (found_nodes l found)) (sym layout_is)
    (finds-above (layout_of w) w.funding c.layout.ensures.fits c.args.node
    (limits-within w c.args.node c.requires.node) found list c.find.ensures.consistent finds)
