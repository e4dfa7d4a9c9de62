use Rattle.lot_value.proofs.Lemmas.{Contains, IsFree, Layout, ap, arith, layout_of, list-low, listed-free, listed-some, marks-nothing, node-within, node_place, nodes_of, subst, ◌∙◌}
use Rattle.lot_value.proofs.marking.mark.Goals as goal

pub returns-then-is_some-clause-marks : goal.returns-then-is_some-clause-marks
returns-then-is_some-clause-marks c =
    let w = c.args.graph.now in
    let there = listed-some c.args.stale.now c.list_of-place.result c.list_of.result c.is_some.result
    c.requires.list.one c.is_some.ensures c.if-is_some.true c.list_of.ensures.found in
    let place = c.list_of-place.ensures
    ∙ ap (λ (l : Layout). node_place l c.args.node) c.layout-layout.ensures.layout in
    marks-nothing (layout_of w) w.funding (nodes_of c.args.stale.now 0) c.args.node
    (subst (Contains (nodes_of c.args.stale.now 0)) place there)

pub list_of-requires : goal.list_of-requires
list_of-requires c =
    let w = c.args.graph.now in
    let place = c.list_of-place.ensures
    ∙ ap (λ (l : Layout). node_place l c.args.node) c.layout-layout.ensures.layout in
    let low = list-low (layout_of w) c.args.node (node-within w c.args.node c.requires.node) in
    omega (arith, place, low, c.requires.list.nodes)

pub mark_unlisted-requires-clause-place : goal.mark_unlisted-requires-clause-place
mark_unlisted-requires-clause-place c = c.list_of-place.ensures
    ∙ ap (λ (l : Layout). node_place l c.args.node) c.layout-layout.ensures.layout

pub mark_unlisted-requires-clause-free : goal.mark_unlisted-requires-clause-free
mark_unlisted-requires-clause-free c = listed-free c.list_of.result c.is_some.result
    (IsFree c.args.stale.now c.list_of-place.result) c.is_some.ensures c.if-is_some.false c.list_of.ensures.free
