use Rattle.lot_value.proofs.Lemmas.{Layout, OfLender, Some, Thread, ap, arith, head_of, layout_of, lend_node, lender-edge, list-low, node_place, option_and_then, some-injective, spread-edge, sym, thread-edge, ◌∙◌, ◌≡◌}
use Rattle.lot_value.proofs.marking.add_borrower.Goals as goal
use Rattle.lot_value.proofs.marking.add_borrower.Goals.{After-list_of}

-- where the lend leads, and the place of that node
head : (c : After-list_of) → head_of c.args.graph.now.funding (OfLender c.args.thread) ≡ Some c.in-Some-lent_node.to
head c = ap (option_and_then lend_node) (sym c.lend_of.ensures ∙ c.in-Some.is) ∙ sym c.lent_node.ensures
    ∙ c.in-Some-lent_node.is

place : (c : After-list_of) → c.list_of.result ≡ node_place (layout_of c.args.graph.now) c.in-Some-lent_node.to
place c = c.list_of.ensures ∙ ap (λ (l : Layout). node_place l c.in-Some-lent_node.to) c.layout-layout.ensures.layout

pub add-requires-clause-place : goal.add-requires-clause-place
add-requires-clause-place c =
    let w = c.args.graph.now in
    let to = c.in-Some-lent_node.to in
    let (edge, ends) = lender-edge w.funding c.args.thread to (head c) in
    let low = list-low (layout_of w) to (c.layout-layout.ensures.fits.to edge (Thread c.args.thread) to ends) in
    omega (arith, place c, low, c.requires.list.nodes)

pub returns-in-Some-lent_node-clause-spreads : goal.returns-in-Some-lent_node-clause-spreads
returns-in-Some-lent_node-clause-spreads c =
    let w = c.args.graph.now in
    let before = (goal.at.returns-in-Some-lent_node-clause-spreads c).After-list_of in
    let to = c.in-Some-lent_node.to in
    spread-edge (layout_of w) w.funding (Thread c.args.thread) to _ _ c.list_of.result
    (lender-edge w.funding c.args.thread to (head before))
    (λ other edge. some-injective to other (sym (head before) ∙ thread-edge w.funding c.args.thread other edge))
    (place before) c.add.ensures.spreads
