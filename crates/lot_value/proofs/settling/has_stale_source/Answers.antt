use Rattle.lot_value.proofs.Lemmas.{Contains, Edge, HasEachOnce, IsEdge, Layout, LeadsInto, List, Node, OnFalse_from, Some, ap, arith, each-done, each-here, each-next, ends_of, false, free-none, layout_of, list-low, listed-some, node_place, nodes_of, raising-kept, raising-none, raising-start, some-injective, subst, sym, ◌∙◌, ◌≡◌}
use Rattle.lot_value.proofs.settling.has_stale_source.Goals as goal
use Rattle.lot_value.proofs.settling.has_stale_source.Goals.{After-list_of-place}

pub loop-edge-init : goal.loop-edge-init
loop-edge-init c =
    let w = c.args.graph.now in record {
      split = subst (λ (edges : List Edge). HasEachOnce edges (LeadsInto w.funding c.args.node))
          (sym c.into_iter-edge-iterator.ensures.into_iter_gives) c.edges_into-edge-items.ensures.edges;
      found = tt;
      fresh = λ none. raising-start (layout_of w) w.funding c.args.node c.args.stale.now;
    }

pub source_of_edge-requires : goal.source_of_edge-requires
source_of_edge-requires c =
    let w = c.args.graph.now in
    let (from, ends) = each-here (LeadsInto w.funding c.args.node) c.loop-edge.yielded _ _ c.in-Some.edge
    c.in-Some.ensures.steps c.loop-edge.invariant.split in
    record { within = c.layout-layout.ensures.fits.edge c.in-Some.edge from c.args.node ends }

pub unreachable-requires : goal.unreachable-requires
unreachable-requires c =
    let w = c.args.graph.now in
    let here = each-here (LeadsInto w.funding c.args.node) c.loop-edge.yielded _ _ c.in-Some.edge
    c.in-Some.ensures.steps c.loop-edge.invariant.split in
    c.in_default.not-Some here.0 (c.source_of_edge.ensures.source here.0 c.args.node here.1)

-- where the next edge leads from, and the place of that node
next-source : (c : After-list_of-place)
    → (from : Node) × (ends_of c.args.graph.now.funding c.in-Some.edge ≡ Some (from, c.args.node))
    × (c.list_of-place.result ≡ node_place (layout_of c.args.graph.now) from)
next-source c =
    let w = c.args.graph.now in
    let edge = c.in-Some.edge in
    let e = c.in-Some-source_of_edge.source in
    let (from, ends) = each-here (LeadsInto w.funding c.args.node) c.loop-edge.yielded _ _ edge c.in-Some.ensures.steps
    c.loop-edge.invariant.split in
    let same = ap (node_place (layout_of w))
    (some-injective e from (sym c.in-Some-source_of_edge.is ∙ c.source_of_edge.ensures.source from c.args.node ends)) in
    (from, ends, c.list_of-place.ensures ∙ ap (λ (l : Layout). node_place l e) c.layout-layout.ensures.layout ∙ same)

pub list_of-requires : goal.list_of-requires
list_of-requires c =
    let (from, ends, place) = next-source c in
    let low = list-low (layout_of c.args.graph.now) from
    (c.layout-layout.ensures.fits.from c.in-Some.edge from c.args.node ends) in
    omega (arith, place, low, c.requires.list.nodes)

pub loop-edge-preserved-then-is_some : goal.loop-edge-preserved-then-is_some
loop-edge-preserved-then-is_some c =
    let w = c.args.graph.now in
    let v = c.args.stale.now in
    let edge = c.in-Some.edge in
    let (from, ends, place) = next-source (goal.at.loop-edge-preserved-then-is_some c).After-list_of-place in
    let there = listed-some v c.list_of-place.result c.list_of.result c.is_some.result c.requires.list.one
    c.is_some.ensures c.if-is_some.true c.list_of.ensures.found in record {
      split = each-next (LeadsInto w.funding c.args.node) c.loop-edge.yielded _ _ edge c.in-Some.ensures.steps
          c.loop-edge.invariant.split;
      found = (c.list_of-place.result, there, (from, (edge, ends), sym place));
      fresh = λ none. cc;
    }

pub loop-edge-preserved : goal.loop-edge-preserved
loop-edge-preserved c =
    let w = c.args.graph.now in
    let v = c.args.stale.now in
    let edge = c.in-Some.edge in
    let (from, ends, place) = next-source (goal.at.loop-edge-preserved c).After-list_of-place in
    let free = free-none v c.list_of-place.result c.list_of.result c.is_some.result c.is_some.ensures c.if-is_some.false
    c.list_of.ensures.free in
    let off = subst (λ x. ¬ Contains (nodes_of v 0) x) place free in record {
      split = each-next (LeadsInto w.funding c.args.node) c.loop-edge.yielded _ _ edge c.in-Some.ensures.steps
          c.loop-edge.invariant.split;
      found = c.loop-edge.invariant.found;
      fresh = λ none. raising-kept (layout_of w) w.funding c.args.node v v c.loop-edge.yielded false
          (c.loop-edge.invariant.fresh none) edge from ends off;
    }

pub returns-clause-none : goal.returns-clause-none
returns-clause-none c =
    let w = c.args.graph.now in
    let l = layout_of w in
    let v = c.args.stale.now in
    let all = each-done
    (LeadsInto w.funding c.args.node) c.loop-edge.yielded _ c.in-None.ensures.steps.0 c.loop-edge.invariant.split in
    OnFalse_from c.loop-edge.found
    ((from : Node) → IsEdge w.funding from c.args.node → ¬ Contains (nodes_of v 0) (node_place l from))
    (λ none.
    (raising-none l w.funding c.args.node v v c.loop-edge.yielded false (c.loop-edge.invariant.fresh none) all).1)
