use Rattle.lot_value.proofs.Lemmas.{Bool, IsFreshPlace, IsNodeWithin, IsReordered, IsRight, IsSmall, IsStaleList, Known, Layout, List, Node, Settles, ap, counted_up, edge_count_into, known-same, layout_of, list-back, list-within, map, node_count, node_of, nodes_of, nothing-stale, places-back, refl, reordered-mapped, reordered-right, reordered-settles, subst, sym, ℕ, ◌<◌, ◌∙◌, ◌≡◌}
use Rattle.lot_value.proofs.values.Values.settle_raised.Goals as goal
use Rattle.lot_value.proofs.values.Values.settle_raised.Goals.{After-raise_fresh}

-- what is known as the call begins, field by field
abbrev known : After-raise_fresh → Known
known c =
    let i = c.self.inside in
    record { unit = i.unit; layout = i.layout; values = i.values.items; stale = map (node_of i.layout) (nodes_of i.stale 0); reads = i.reads }

-- the stale nodes in the order of now
abbrev stale : After-raise_fresh → List Node
stale c = map (node_of c.self.inside.layout) (nodes_of c.raise_fresh.new.stale 0)

-- the places are those of the graph
places-are : (c : After-raise_fresh) → c.self.inside.layout ≡ layout_of c.args.graph.now
places-are c = let (live, kept, small, right) = c.requires.right in ap (λ (k : Known). k.layout) c.self.view_is
    ∙ right.layout

-- what is stale is listed in another order
reordered : (c : After-raise_fresh) → IsReordered (known c).stale (stale c)
reordered c = reordered-mapped (node_of c.self.inside.layout) (nodes_of c.self.inside.stale 0)
    (nodes_of c.raise_fresh.new.stale 0) c.raise_fresh.ensures.reordered

-- and is as right in it
right-in : (c : After-raise_fresh) (live : List Bool) → IsRight c.args.graph.now live c.args.self.now
    → IsRight c.args.graph.now live (record (known c) { stale = stale c })
right-in c live right = reordered-right c.args.graph.now live (known c) (stale c) (reordered c)
    (subst (IsRight c.args.graph.now live) (sym c.self.view_is) right)

pub returns-in_err-place-clause-right : goal.returns-in_err-place-clause-right
returns-in_err-place-clause-right c live kept right =
    right-in (goal.at.returns-in_err-place-clause-right c).After-raise_fresh live right

pub returns-in_err-place-clause-none : goal.returns-in_err-place-clause-none
returns-in_err-place-clause-none c =
    let before = (goal.at.returns-in_err-place-clause-none c).After-raise_fresh in
    let i = c.self.inside in
    let k = known before in
    let empty = c.in_err-place.ensures.none in
    let none = nothing-stale i.layout k.stale c.raise_fresh.new.stale (reordered before) empty in
    let same = known-same (record k { stale = stale before }) k refl refl refl
    (ap (map (node_of i.layout)) empty ∙ sym none) refl in
    rw c.from_residual.ensures (sym (ap (λ (x : Known). x.stale) c.self.view_is) ∙ none, same ∙ c.self.view_is)

pub settle_node-requires-clause-right : goal.settle_node-requires-clause-right
settle_node-requires-clause-right c =
    let before = (goal.at.settle_node-requires-clause-right c).After-raise_fresh in
    let (live, kept, small, right) = c.requires.right in
    (live, kept, subst (λ (x : Known). IsSmall x.unit c.args.graph.now live) (sym c.self.view_is) small, right-in before live right)

pub settle_node-requires-clause-fresh : goal.settle_node-requires-clause-fresh
settle_node-requires-clause-fresh c =
    let before = (goal.at.settle_node-requires-clause-fresh c).After-raise_fresh in
    let l = c.self.inside.layout in
    let w = c.args.graph.now in
    let now = c.raise_fresh.new.stale in
    let list =
    subst (λ (x : Layout). IsStaleList now (node_count x)) (sym (places-are before)) c.raise_fresh.ensures.list in
    let back = places-back l (nodes_of now 0) (list-within now (node_count l) list) in
    subst (λ (xs : List ℕ). IsFreshPlace (layout_of w) w.funding xs c.in_ok-place.place)
    (sym back) c.in_ok-place.ensures.fresh

pub returns-clause-right : goal.returns-clause-right
returns-clause-right c live kept right =
    c.settle_node.ensures.right live kept (right-in (goal.at.returns-clause-right c).After-raise_fresh live right)

pub returns-clause-settles : goal.returns-clause-settles
returns-clause-settles c =
    let before = (goal.at.returns-clause-settles c).After-raise_fresh in
    let settles = reordered-settles (known before) c.settle_node.new.self (stale before) c.node_of-node.result
    (reordered before) c.settle_node.ensures.settles in
    subst (λ (old : Known). Settles old c.settle_node.new.self c.node_of-node.result) c.self.view_is settles

pub raise_fresh-requires : goal.raise_fresh-requires
raise_fresh-requires c =
    let (live, kept, small, right) = c.requires.right in
    record { list = subst (λ (x : Layout). IsStaleList c.self.inside.stale (node_count x)) (ap (λ (k : Known). k.layout) c.self.view_is ∙ right.layout) c.self.invariant.0 }

pub node_of-node-requires : goal.node_of-node-requires
node_of-node-requires c =
    let low = list-within c.raise_fresh.new.stale (node_count (layout_of c.args.graph.now)) c.raise_fresh.ensures.list
    c.in_ok-place.place c.in_ok-place.ensures.fresh.listed in
    subst (λ (l : Layout). c.in_ok-place.place < node_count l) (sym c.layout.ensures.layout) low

pub settle_node-requires-clause-place : goal.settle_node-requires-clause-place
settle_node-requires-clause-place c = list-within c.raise_fresh.new.stale (node_count (layout_of c.args.graph.now))
    c.raise_fresh.ensures.list c.in_ok-place.place c.in_ok-place.ensures.fresh.listed

pub settle_node-requires-clause-node : goal.settle_node-requires-clause-node
settle_node-requires-clause-node c = c.node_of-node.ensures
    ∙ ap (λ (l : Layout). node_of l c.in_ok-place.place) c.layout.ensures.layout

pub invariant_of-self : goal.invariant_of-self
invariant_of-self c =
    let before = (goal.at.invariant_of-self c).After-raise_fresh in
    (subst (λ (x : Layout). IsStaleList c.raise_fresh.new.stale (node_count x)) (sym (places-are before)) c.raise_fresh.ensures.list, c.self.invariant.1)

pub returns-in_err-place-clause-within : goal.returns-in_err-place-clause-within
returns-in_err-place-clause-within c = rw c.from_residual.ensures tt

pub returns-in_err-place-clause-counted : goal.returns-in_err-place-clause-counted
returns-in_err-place-clause-counted c = rw c.from_residual.ensures tt

pub returns-in_err-place-clause-settles : goal.returns-in_err-place-clause-settles
returns-in_err-place-clause-settles c = rw c.from_residual.ensures tt

pub returns-clause-within : goal.returns-clause-within
returns-clause-within c =
    let w = c.args.graph.now in
    let (live, kept, small, right) = c.requires.right in
    let low = list-within c.raise_fresh.new.stale (node_count (layout_of c.args.graph.now)) c.raise_fresh.ensures.list
    c.in_ok-place.place c.in_ok-place.ensures.fresh.listed in
    let node_is = c.node_of-node.ensures ∙ ap (λ (l : Layout). node_of l c.in_ok-place.place) c.layout.ensures.layout in
    subst (λ (l : Layout). IsNodeWithin l c.node_of-node.result) (sym right.layout)
    (subst (IsNodeWithin (layout_of w)) (sym node_is) (list-back (layout_of w) c.in_ok-place.place low).1)

pub returns-clause-counted : goal.returns-clause-counted
returns-clause-counted c =
    c.settle_node.ensures.counted ∙ ap
    (λ (k : Known). counted_up k.reads (edge_count_into c.args.graph.now.funding c.node_of-node.result)) c.self.view_is

pub returns-clause-none : goal.returns-clause-none
returns-clause-none c = tt
