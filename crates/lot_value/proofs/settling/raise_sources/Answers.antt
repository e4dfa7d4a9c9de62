use Rattle.lot_value.proofs.Lemmas.{Contains, Edge, HasEachOnce, Layout, LeadsInto, List, Some, ap, arith, each-done, each-here, each-next, free-none, layout_of, list-low, listed-some, node_place, nodes_of, place-in, raising-kept, raising-moved, raising-none, raising-raised, raising-start, same-list, some-injective, subst, sym, with_pushed, with_removed, ◌∙◌}
use Rattle.lot_value.proofs.settling.raise_sources.Goals as goal

pub source_of_edge-requires : goal.source_of_edge-requires
source_of_edge-requires c =
    let w = c.args.graph.now in
    let (from, ends) = each-here (LeadsInto w.funding c.args.node) c.loop-edge.yielded _ _ c.in-Some.edge
    c.in-Some.ensures.steps c.loop-edge.invariant.split in
    record { within = c.layout-layout.ensures.fits.edge c.in-Some.edge from c.args.node ends }

pub unreachable-requires : goal.unreachable-requires
unreachable-requires c =
    let w = c.args.graph.now in
    let here = each-here (LeadsInto w.funding c.args.node) c.loop-edge.yielded _ _ c.in-Some.edge
    c.in-Some.ensures.steps c.loop-edge.invariant.split in
    c.in_default.not-Some here.0 (c.source_of_edge.ensures.source here.0 c.args.node here.1)

pub loop-edge-init : goal.loop-edge-init
loop-edge-init c = record {
  split = subst (λ (edges : List Edge). HasEachOnce edges (LeadsInto c.args.graph.now.funding c.args.node))
      (sym c.into_iter-edge-iterator.ensures.into_iter_gives) c.edges_into-edge-items.ensures.edges;
  list = c.requires.list;
  raising = raising-start (layout_of c.args.graph.now) c.args.graph.now.funding c.args.node c.args.stale.now;
}

pub list_of-requires : goal.list_of-requires
list_of-requires c =
    let w = c.args.graph.now in
    let l = layout_of w in
    let edge = c.in-Some.edge in
    let source = c.in-Some-source_of_edge.source in
    let (from, ends) = each-here (LeadsInto w.funding c.args.node) c.loop-edge.yielded _ _ edge c.in-Some.ensures.steps
    c.loop-edge.invariant.split in
    let place = c.list_of-place.ensures ∙ ap (λ (x : Layout). node_place x source) c.layout-layout.ensures.layout
    ∙ ap (node_place l) (some-injective source from
    (sym c.in-Some-source_of_edge.is ∙ c.source_of_edge.ensures.source from c.args.node ends)) in
    let low = list-low l from (c.layout-layout.ensures.fits.from edge from c.args.node ends) in
    omega (arith, place, low, c.loop-edge.invariant.list.nodes)

pub loop-edge-preserved-then-is_some : goal.loop-edge-preserved-then-is_some
loop-edge-preserved-then-is_some c =
    let w = c.args.graph.now in
    let l = layout_of w in
    let edge = c.in-Some.edge in
    let source = c.in-Some-source_of_edge.source in
    let (from, ends) = each-here (LeadsInto w.funding c.args.node) c.loop-edge.yielded _ _ edge c.in-Some.ensures.steps
    c.loop-edge.invariant.split in
    let place = c.list_of-place.ensures ∙ ap (λ (x : Layout). node_place x source) c.layout-layout.ensures.layout
    ∙ ap (node_place l) (some-injective source from
    (sym c.in-Some-source_of_edge.is ∙ c.source_of_edge.ensures.source from c.args.node ends)) in
    let there = listed-some c.loop-edge.stale c.list_of-place.result c.list_of.result c.is_some.result
    c.loop-edge.invariant.list.one c.is_some.ensures c.if-is_some.true c.list_of.ensures.found in
    let r = place-in (nodes_of c.loop-edge.stale 0) c.list_of-place.result there in record {
      split = each-next (LeadsInto w.funding c.args.node) c.loop-edge.yielded _ _ edge c.in-Some.ensures.steps
          c.loop-edge.invariant.split;
      list = same-list c.loop-edge.stale c.move_to.new.self _ c.loop-edge.invariant.list c.move_to.ensures.same_size
          c.move_to.ensures.consistent;
      raising =
          raising-moved l w.funding c.args.node c.args.stale.now c.loop-edge.stale c.loop-edge.yielded
          c.loop-edge.raised c.loop-edge.invariant.raising edge from ends c.move_to.new.self r.0
          c.loop-edge.invariant.list.one
          (r.1 ∙ ap Some place)
          (c.move_to.ensures.moved 0 r.0 r.1 ∙ ap (with_pushed (with_removed c.loop-edge.stale 0 r.0) 0) place);
    }

pub loop-edge-preserved : goal.loop-edge-preserved
loop-edge-preserved c =
    let w = c.args.graph.now in
    let l = layout_of w in
    let edge = c.in-Some.edge in
    let source = c.in-Some-source_of_edge.source in
    let (from, ends) = each-here (LeadsInto w.funding c.args.node) c.loop-edge.yielded _ _ edge c.in-Some.ensures.steps
    c.loop-edge.invariant.split in
    let place = c.list_of-place.ensures ∙ ap (λ (x : Layout). node_place x source) c.layout-layout.ensures.layout
    ∙ ap (node_place l) (some-injective source from
    (sym c.in-Some-source_of_edge.is ∙ c.source_of_edge.ensures.source from c.args.node ends)) in
    let off = free-none c.loop-edge.stale c.list_of-place.result c.list_of.result c.is_some.result c.is_some.ensures
    c.if-is_some.false c.list_of.ensures.free in record {
      split = each-next (LeadsInto w.funding c.args.node) c.loop-edge.yielded _ _ edge c.in-Some.ensures.steps
          c.loop-edge.invariant.split;
      list = c.loop-edge.invariant.list;
      raising =
          raising-kept l w.funding c.args.node c.args.stale.now c.loop-edge.stale c.loop-edge.yielded c.loop-edge.raised
          c.loop-edge.invariant.raising edge from ends
          (subst (λ x. ¬ Contains (nodes_of c.loop-edge.stale 0) x) place off);
    }

pub returns-clause-raised : goal.returns-clause-raised
returns-clause-raised c = raising-raised (layout_of c.args.graph.now) c.args.graph.now.funding c.args.node
    c.args.stale.now c.loop-edge.stale c.loop-edge.yielded c.loop-edge.raised c.loop-edge.invariant.raising

pub returns-clause-none : goal.returns-clause-none
returns-clause-none c =
    raising-none (layout_of c.args.graph.now) c.args.graph.now.funding c.args.node c.args.stale.now c.loop-edge.stale
    c.loop-edge.yielded c.loop-edge.raised c.loop-edge.invariant.raising
    (each-done (LeadsInto c.args.graph.now.funding c.args.node) c.loop-edge.yielded _ c.in-None.ensures.steps.0
    c.loop-edge.invariant.split)
