use Rattle.lot_value.proofs.Lemmas.{AreSources, Bool, IsFreshPlace, IsRight, IsSmall, Known, Layout, List, Some, ap, arith, kept_worth, layout_of, length, list-within, map, mapped-contains, node_at, node_count, node_of, nodes_of, place-in, places-back, refl, reordered-same, settle-right, settle-settles, shares-at, shares_into, source-fresh, sources-small, stale_places, subst, sym, ℕ, ◌∙◌, ◌≡◌}
use Rattle.lot_value.proofs.values.Values.settle_node.Goals as goal
use Rattle.lot_value.proofs.values.Values.settle_node.Goals.{After-deref}

-- what is known as the call begins, field by field
abbrev known : After-deref → Known
known c =
    let i = c.self.inside in
    record { unit = i.unit; layout = i.layout; values = i.values.items; stale = map (node_of i.layout) (nodes_of i.stale 0); reads = i.reads }

-- the places are those of the graph
places-are : (c : After-deref) → c.self.inside.layout ≡ layout_of c.args.graph.now
places-are c = let (live, kept, small, right) = c.requires.right in ap (λ (k : Known). k.layout) c.self.view_is
    ∙ right.layout

-- the place is listed, and no source of its node is
fresh : (c : After-deref)
    → IsFreshPlace c.self.inside.layout c.args.graph.now.funding (nodes_of c.self.inside.stale 0) c.args.place
fresh c =
    let i = c.self.inside in
    let w = c.args.graph.now in
    let back =
    places-back i.layout (nodes_of i.stale 0) (list-within i.stale (node_count i.layout) c.self.invariant.0) in
    let listed = subst (λ (k : Known). IsFreshPlace (layout_of w) w.funding (stale_places k) c.args.place)
    (sym c.self.view_is) c.requires.fresh in
    subst (λ (xs : List ℕ). IsFreshPlace i.layout w.funding xs c.args.place) back
    (subst (λ (l : Layout). IsFreshPlace l w.funding (stale_places (known c)) c.args.place) (sym (places-are c)) listed)

-- where it is listed
here : (c : After-deref) → (at : ℕ) × (node_at c.self.inside.stale 0 at ≡ Some c.args.place)
here c = place-in (nodes_of c.self.inside.stale 0) c.args.place (fresh c).listed

node-is : (c : After-deref) → c.args.node ≡ node_of c.self.inside.layout c.args.place
node-is c = c.requires.node ∙ ap (λ (l : Layout). node_of l c.args.place) (sym (places-are c))

same-shares : (c : After-deref) (live : List Bool)
    → shares_into c.self.inside.unit c.args.graph.now.funding live
    (kept_worth (layout_of c.args.graph.now) c.deref.result.now) c.args.node
    ≡ shares_into c.self.inside.unit c.args.graph.now.funding live
    (kept_worth c.self.inside.layout c.self.inside.values.items) (node_of c.self.inside.layout c.args.place)
same-shares c live =
    let i = c.self.inside in
    shares-at i.unit c.args.graph.now.funding live (layout_of c.args.graph.now) i.layout c.deref.result.now
    i.values.items c.args.node (node_of i.layout c.args.place) (sym (places-are c)) c.deref.ensures.value (node-is c)

pub read_value-requires-clause-sources : goal.read_value-requires-clause-sources
read_value-requires-clause-sources c =
    let before = (goal.at.read_value-requires-clause-sources c).After-deref in
    let i = c.self.inside in
    let w = c.args.graph.now in
    let k = known before in
    let node = node_of i.layout c.args.place in
    let (live, kept, small, right) = c.requires.right in
    let right_k = subst (IsRight w live) (sym c.self.view_is) right in
    let small_k = subst (λ (x : Known). IsSmall x.unit w live) (sym c.self.view_is) small in
    let at = here before in
    let no_source = source-fresh w live kept.fits k right_k i.stale _ at.0 c.args.place 0 0 c.self.invariant.0
    (reordered-same k.stale) at.1 refl (fresh before).sources in
    let there =
    right_k.stale node (mapped-contains (node_of i.layout) (nodes_of i.stale 0) c.args.place (fresh before).listed) in
    let is_small = sources-small w live k kept.sound kept.fits right_k node no_source there small_k in
    (live, record { kept = kept; places = ap (length {A = ℕ}) c.deref.ensures.value ∙ c.self.invariant.1 ∙ ap node_count (places-are before) }, omega (arith, same-shares before live, is_small))

pub remove-requires : goal.remove-requires
remove-requires c =
    record { listed = record { list = 0; contains = (fresh (goal.at.remove-requires c).After-deref).listed } }

pub returns-clause-right : goal.returns-clause-right
returns-clause-right c live kept right =
    let before = (goal.at.returns-clause-right c).After-deref in
    let i = c.self.inside in
    let w = c.args.graph.now in
    let k = known before in
    let right_k = subst (IsRight w live) (sym c.self.view_is) right in
    let at = here before in
    let are : AreSources
    (record { graph = c.args.graph; active = c.args.active; values = c.deref.result; unit = i.unit }) live =
    record { kept = kept; places = ap (length {A = ℕ}) c.deref.ensures.value ∙ c.self.invariant.1 ∙ ap node_count (places-are before) } in
    settle-right w live kept.fits k right_k i.stale c.remove.new.self at.0 c.args.place c.read_value.result _
    c.self.invariant.0 (reordered-same k.stale) at.1 (c.remove.ensures.removed 0 at.0 at.1)
    (fresh before).sources i.values.items refl
    (c.read_value.ensures.value live are ∙ same-shares before live)

pub returns-clause-settles : goal.returns-clause-settles
returns-clause-settles c =
    let before = (goal.at.returns-clause-settles c).After-deref in
    let i = c.self.inside in
    let w = c.args.graph.now in
    let k = known before in
    let (live, kept, small, right) = c.requires.right in
    let right_k = subst (IsRight w live) (sym c.self.view_is) right in
    let at = here before in
    rw (← c.self.view_is, node-is before)
    (settle-settles w live kept.fits k right_k i.stale c.remove.new.self at.0 c.args.place c.read_value.result _
    c.self.invariant.0 (reordered-same k.stale) at.1 (c.remove.ensures.removed 0 at.0 at.1)
    (fresh before).sources i.values.items refl c.remove.ensures.free)
