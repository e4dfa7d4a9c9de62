use Rattle.lot_value.proofs.Lemmas.{IsFreshPlace, IsNodeOf, IsNodeWithin, Known, Layout, List, OnFalse_at, ap, first-none, fresh-place, layout_of, list-back, list-within, listed-low, map, node_count, node_of, nodes_of, once-mapped, places-back, refl, stale_places, subst, sym, within-node, ℕ, ◌<◌, ◌∙◌, ◌≡◌}
use Rattle.lot_value.proofs.values.Values.settle_next.Goals as goal
use Rattle.lot_value.proofs.values.Values.settle_next.Goals.{After-layout}

-- the places are those of the graph
places-are : (c : After-layout) → c.self.inside.layout ≡ layout_of c.args.graph.now
places-are c = let (live, kept, small, right) = c.requires.right in ap (λ (k : Known). k.layout) c.self.view_is
    ∙ right.layout

low : (c : After-layout) → c.in_ok-place.place < node_count c.self.inside.layout
low c = listed-low c.self.inside.stale (node_count c.self.inside.layout) 0 c.in_ok-place.place c.self.invariant.0
    (sym c.in_ok-place.ensures.front)

low-there : (c : After-layout) → c.in_ok-place.place < node_count (layout_of c.args.graph.now)
low-there c = subst (λ (l : Layout). c.in_ok-place.place < node_count l) (places-are c) (low c)

pub returns-in_err-place-clause-none : goal.returns-in_err-place-clause-none
returns-in_err-place-clause-none c =
    let i = c.self.inside in
    let empty = first-none (nodes_of i.stale 0) c.in_err-place.ensures.front in
    rw c.from_residual.ensures
    (sym (ap (λ (x : Known). x.stale) c.self.view_is) ∙ ap (map (node_of i.layout)) empty, refl)

pub returns-in_err-place-clause-once : goal.returns-in_err-place-clause-once
returns-in_err-place-clause-once c =
    rw (← c.self.view_is) (once-mapped c.self.inside.layout c.self.inside.stale c.self.invariant.0)

pub returns-then-not-has_stale_source-clause-once : goal.returns-then-not-has_stale_source-clause-once
returns-then-not-has_stale_source-clause-once c =
    rw (← c.self.view_is) (once-mapped c.self.inside.layout c.self.inside.stale c.self.invariant.0)

pub returns-clause-once : goal.returns-clause-once
returns-clause-once c = rw (← c.self.view_is) (once-mapped c.self.inside.layout c.self.inside.stale c.self.invariant.0)

pub node_of-node-requires : goal.node_of-node-requires
node_of-node-requires c =
    let before = (goal.at.node_of-node-requires c).After-layout in
    subst (λ (l : Layout). c.in_ok-place.place < node_count l) (sym c.layout.ensures.layout) (low-there before)

pub has_stale_source-requires-clause-node : goal.has_stale_source-requires-clause-node
has_stale_source-requires-clause-node c =
    let w = c.args.graph.now in
    let place = c.in_ok-place.place in
    let node_is = c.node_of-node.ensures ∙ ap (λ (l : Layout). node_of l place) c.layout.ensures.layout in
    subst (IsNodeOf w) (sym node_is) (within-node w (node_of (layout_of w) place)
    (list-back (layout_of w) place (low-there (goal.at.has_stale_source-requires-clause-node c).After-layout)).1)

pub returns-then-not-has_stale_source-clause-within : goal.returns-then-not-has_stale_source-clause-within
returns-then-not-has_stale_source-clause-within c =
    let before = (goal.at.returns-then-not-has_stale_source-clause-within c).After-layout in
    let l = c.self.inside.layout in
    let place = c.in_ok-place.place in
    let node_is = c.node_of-node.ensures
    ∙ ap (λ (x : Layout). node_of x place) (c.layout.ensures.layout ∙ sym (places-are before)) in
    subst (λ (k : Known). IsNodeWithin k.layout c.node_of-node.result) c.self.view_is
    (subst (IsNodeWithin l) (sym node_is) (list-back l place (low before)).1)

pub settle_node-requires-clause-place : goal.settle_node-requires-clause-place
settle_node-requires-clause-place c = low-there (goal.at.settle_node-requires-clause-place c).After-layout

pub settle_node-requires-clause-fresh : goal.settle_node-requires-clause-fresh
settle_node-requires-clause-fresh c =
    let i = c.self.inside in
    let w = c.args.graph.now in
    let place = c.in_ok-place.place in
    let node_is = c.node_of-node.ensures ∙ ap (λ (l : Layout). node_of l place) c.layout.ensures.layout in
    let is = fresh-place (layout_of w) w.funding i.stale 0 place c.node_of-node.result (sym c.in_ok-place.ensures.front)
    node_is (OnFalse_at c.if-not-has_stale_source.true c.has_stale_source.ensures.none) in
    let back =
    places-back i.layout (nodes_of i.stale 0) (list-within i.stale (node_count i.layout) c.self.invariant.0) in
    subst (λ (k : Known). IsFreshPlace (layout_of w) w.funding (stale_places k) place) c.self.view_is
    (subst (λ (xs : List ℕ). IsFreshPlace (layout_of w) w.funding xs place) (sym back) is)
