use Rattle.lot_value.proofs.Lemmas.{IsFreshPlace, IsNodeWithin, Layout, LeadsFromPlace, Node, NodeLists, OnFalse_at, OnTrue_at, ap, contains-at, fresh-place, last-none, layout_of, list-back, list-within, node_count, node_of, nodes_of, rank-falls, reordered-same, reordered-then, subst, sym, within-node, ◌<◌, ◌∙◌}
use Rattle.lot_value.proofs.settling.fresh_back.Goals as goal

pub returns-then-not-raise_sources-clause-fresh : goal.returns-then-not-raise_sources-clause-fresh
returns-then-not-raise_sources-clause-fresh c =
    let w = c.args.graph.now in
    let place = c.in-Some.place in
    let at = sym c.last.ensures ∙ c.in-Some.is in
    let node_is = c.node_of.ensures ∙ ap (λ (l : Layout). node_of l place) c.layout-layout.ensures.layout in
    let none = OnFalse_at c.if-not-raise_sources.true c.raise_sources.ensures.none in
    subst (λ (v : NodeLists). IsFreshPlace (layout_of w) w.funding (nodes_of v 0) place) (sym none.0)
    (fresh-place (layout_of w) w.funding c.loop-place.stale _ place c.node_of.result at node_is none.1)

pub loop-place-smaller : goal.loop-place-smaller
loop-place-smaller c =
    let w = c.args.graph.now in
    let place = c.in-Some.place in
    let at = sym c.last.ensures ∙ c.in-Some.is in
    let node_is = c.node_of.ensures ∙ ap (λ (l : Layout). node_of l place) c.layout-layout.ensures.layout in
    let r = OnTrue_at c.if-not-raise_sources.false c.raise_sources.ensures.raised in
    let from = subst (λ (x : Node). LeadsFromPlace (layout_of w) w.funding r.0 x) node_is r.2 in
    rank-falls (layout_of w) w.funding c.layout-layout.ensures.fits c.layout-layout.ensures.sound.no_cycle _ _ place r.0
    at r.1 from

pub returns-clause-none : goal.returns-clause-none
returns-clause-none c = last-none (nodes_of c.loop-place.stale 0) c.last.result c.last.ensures c.in_default.is

pub loop-place-init : goal.loop-place-init
loop-place-init c = record { list = c.requires.list; reordered = reordered-same (nodes_of c.args.stale.now 0) }

pub node_of-requires : goal.node_of-requires
node_of-requires c =
    let v = c.loop-place.stale in
    let here = contains-at (nodes_of v 0) _ c.in-Some.place (sym c.last.ensures ∙ c.in-Some.is) in
    subst (λ (l : Layout). c.in-Some.place < node_count l) (sym c.layout-layout.ensures.layout)
    (list-within v (node_count (layout_of c.args.graph.now)) c.loop-place.invariant.list c.in-Some.place here)

pub raise_sources-requires : goal.raise_sources-requires
raise_sources-requires c =
    let w = c.args.graph.now in
    let v = c.loop-place.stale in
    let place = c.in-Some.place in
    let here = contains-at (nodes_of v 0) _ place (sym c.last.ensures ∙ c.in-Some.is) in
    let low = list-within v (node_count (layout_of w)) c.loop-place.invariant.list place here in
    let node_is = c.node_of.ensures ∙ ap (λ (l : Layout). node_of l place) c.layout-layout.ensures.layout in
    record {
      list = c.loop-place.invariant.list;
      node = within-node w c.node_of.result
          (subst (IsNodeWithin (layout_of w)) (sym node_is) (list-back (layout_of w) place low).1);
    }

pub loop-place-preserved : goal.loop-place-preserved
loop-place-preserved c = record {
  list = c.raise_sources.ensures.list;
  reordered = reordered-then (nodes_of c.args.stale.now 0) (nodes_of c.loop-place.stale 0)
      (nodes_of c.raise_sources.new.stale 0) c.loop-place.invariant.reordered c.raise_sources.ensures.reordered;
}

pub returns-then-not-raise_sources-clause-list : goal.returns-then-not-raise_sources-clause-list
returns-then-not-raise_sources-clause-list c = c.raise_sources.ensures.list

pub returns-then-not-raise_sources-clause-reordered : goal.returns-then-not-raise_sources-clause-reordered
returns-then-not-raise_sources-clause-reordered c =
    reordered-then (nodes_of c.args.stale.now 0) (nodes_of c.loop-place.stale 0)
    (nodes_of c.raise_sources.new.stale 0) c.loop-place.invariant.reordered c.raise_sources.ensures.reordered

pub returns-then-not-raise_sources-clause-none : goal.returns-then-not-raise_sources-clause-none
returns-then-not-raise_sources-clause-none c = tt

pub returns-clause-list : goal.returns-clause-list
returns-clause-list c = c.loop-place.invariant.list

pub returns-clause-reordered : goal.returns-clause-reordered
returns-clause-reordered c = c.loop-place.invariant.reordered

pub returns-clause-fresh : goal.returns-clause-fresh
returns-clause-fresh c = tt
