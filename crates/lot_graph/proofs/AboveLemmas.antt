-- A search against the edges: it adds the tails of the edges into a node, and finds the nodes above.
use Rattle.lot_graph.proofs.Common.{Contains, Contains-append_right, Currency, Edge, Finds, FitsIn, Funding, HasEachOnce, IfNone, IfSome, IsAbove, IsBack, IsConsistent, IsEdge, IsEdgeWithin, IsFoundList, IsFree, IsNext, IsNodeOf, IsNodeWithin, IsSome, IsTrail, IsWay, Layout, LeadsInto, LimitedFunding, List, Mutex, Node, NodeLists, OfLender, OfMutex, OfTicket, Option, Reaches, Some, Spreads, Thread, ap, append-nil, append_assoc, arith, contains-mapped, ends_of, found_nodes, layout_of, map, mapped-contains, node_count, node_of, node_place, nodes_of, option_map, refl, some-injective, subst, sym, tail_of, zero, ℕ, [], ◌++◌, ◌+◌, ◌<◌, ◌↔◌, ◌∙◌, ◌∷◌, ◌≡◌}
use Rattle.lot_graph.proofs.CycleLemmas.{list-test}
use Rattle.lot_graph.proofs.SpreadLemmas.{IsOfSome, found-low, lender-tail, list-back, mutex-tail, node-back, spread-by, ticket-tail}

-- ---- found nodes and their places

-- a node within the limits of a graph has a place in its layout
pub limits-within : (w : LimitedFunding) (node : Node) → IsNodeOf w node → IsNodeWithin (layout_of w) node
limits-within w (Currency c) there = there
limits-within w (Thread t) there = there
limits-within w (Mutex m) there = there

-- and the other way round
pub within-limits : (w : LimitedFunding) (node : Node) → IsNodeWithin (layout_of w) node → IsNodeOf w node
within-limits w (Currency c) there = there
within-limits w (Thread t) there = there
within-limits w (Mutex m) there = there

module _ (l : Layout) (places : List ℕ) (node : Node) where
  -- the place of a node that is found is among the places
  pub found-place : ((x : ℕ) → Contains places x → x < node_count l) → Contains (map (node_of l) places) node
      → Contains places (node_place l node)
  found-place low there =
      let (x, c, is) = contains-mapped (node_of l) places node there in
      subst (Contains places) (sym (list-back l x (low x c)).0 ∙ ap (node_place l) is) c

  -- and a node whose place is among them is found
  pub place-found : IsNodeWithin l node → Contains places (node_place l node) → Contains (map (node_of l) places) node
  place-found within c = subst (Contains (map (node_of l) places)) (node-back l node within)
      (mapped-contains (node_of l) places (node_place l node) c)

-- the test of whether a node is in the list tells whether it is found
pub found-test : (l : Layout) (v : NodeLists) (node : Node) (x : ℕ) (o : Option ℕ) → IsNodeWithin l node
    → x ≡ node_place l node → IsFoundList l v → IsConsistent v
    → IfSome o (λ list. Contains (nodes_of v list) x) → IfNone o (IsFree v x)
    → IsSome o ↔ Contains (map (node_of l) (nodes_of v 0)) node
found-test l v node x o within is list consistent some none =
    let test = list-test v x o list.1 some none in (
      λ yes. place-found l (nodes_of v 0) node within (subst (Contains (nodes_of v 0)) is (test.0 yes)),
      λ there. test.1 (subst (Contains (nodes_of v 0)) (sym is)
          (found-place l (nodes_of v 0) node (found-low l v list consistent) there)),
    )

-- ---- the edges into a node

-- an edge that is there leads out of its tail
pub ends-tail : (f : Funding) (edge : Edge) (from to : Node) → ends_of f edge ≡ Some (from, to)
    → tail_of f edge ≡ Some from
ends-tail f (OfTicket n) from to is = let (c, from_is, issued) = ticket-tail f n from to is in
    ap (option_map Currency) issued ∙ ap Some (sym from_is)
ends-tail f (OfLender t) from to is = ap Some (sym (lender-tail f t from to is))
ends-tail f (OfMutex m) from to is = ap Some (sym (mutex-tail f m from to is))

module _ (l : Layout) (f : Funding) (node : Node) (edges : List Edge)
    (into : HasEachOnce edges (LeadsInto f node)) where
  pub tails-all : (v w : NodeLists) → Spreads v w (IsOfSome l (tail_of f) edges)
      → Spreads v w (IsNext l (IsBack f) node)
  tails-all v w spreads = spread-by (IsNext l (IsBack f) node) spreads to back
    where
      to : (x : ℕ) → IsOfSome l (tail_of f) edges x → IsNext l (IsBack f) node x
      to x (edge, c, (from, at, here)) =
          let (tail, ends) = into.each edge c in
          let same : tail ≡ from = some-injective tail from (sym (ends-tail f edge tail node ends) ∙ at) in
          (from, subst (λ y. IsEdge f y node) same (edge, ends), here)

      back : (x : ℕ) → IsNext l (IsBack f) node x → IsOfSome l (tail_of f) edges x
      back x (from, (edge, ends), here) =
          (edge, into.all edge (from, ends), (from, ends-tail f edge from node ends, here))

  -- these edges, and the nodes that they lead out of, have places
  module _ (fits : FitsIn l f) (edge : Edge) (c : Contains edges edge) where
    pub into-within : IsEdgeWithin l edge
    into-within = let (from, ends) = into.each edge c in fits.edge edge from node ends

    pub tail-within : (tail : Option Node) → tail ≡ tail_of f edge → IfSome tail (IsNodeWithin l)
    tail-within tail is =
        let (from, ends) = into.each edge c in
        subst (λ (o : Option Node). IfSome o (IsNodeWithin l)) (sym (is ∙ ends-tail f edge from node ends))
        (fits.from edge from node ends)

-- ---- a walk over edges

-- the next of the edges that are left is one of all
pub next-contained : (done xs rest : List Edge) (edge : Edge) → xs ≡ edge ∷ rest → Contains (done ++ xs) edge
next-contained done xs rest edge is =
    Contains-append_right done xs edge (subst (λ (es : List Edge). Contains es edge) (sym is) (zero, omega arith, refl))

module _ {IsSo : Edge → Type 0} where
  -- the same edges are walked when the next one was yielded
  pub walk-more : (done xs rest : List Edge) (edge : Edge) → xs ≡ edge ∷ rest → HasEachOnce (done ++ xs) IsSo
      → HasEachOnce ((done ++ edge ∷ []) ++ rest) IsSo
  walk-more done xs rest edge is = subst (λ (es : List Edge). HasEachOnce es IsSo)
      (ap (λ (ys : List Edge). done ++ ys) is ∙ sym (append_assoc done (edge ∷ []) rest))

  -- all were yielded if none is left
  pub walk-end : (done xs : List Edge) → xs ≡ [] → HasEachOnce (done ++ xs) IsSo → HasEachOnce done IsSo
  walk-end done xs is =
      subst (λ (es : List Edge). HasEachOnce es IsSo) (ap (λ (ys : List Edge). done ++ ys) is ∙ append-nil done)

-- ---- what is above a node

module _ (l : Layout) (f : Funding) (fits : FitsIn l f) (node : Node) (in_node : IsNodeWithin l node) where
  -- a path's edges are those of a trail against them
  back-way : (trail : List Node) (x : Node) → IsTrail (IsBack f) node trail x → IsWay f x trail node
  back-way [] x same = sym same
  back-way (last ∷ rest) x (edge, others) = (edge, back-way rest last others)

  way-back : (way : List Node) (x : Node) → IsWay f x way node → IsNodeWithin l x × IsTrail (IsBack f) node way x
  way-back [] x same = (subst (IsNodeWithin l) (sym same) in_node, sym same)
  way-back (next ∷ rest) x ((edge, is), others) =
      (fits.from edge x next is, ((edge, is), (way-back rest next others).1))

  pub finds-above : (v : NodeLists) → IsFoundList l v → IsConsistent v → Finds l (IsBack f) node v
      → IsAbove f node (found_nodes l v)
  finds-above v list consistent finds x = (
    λ there.
        let (place, c, is) = contains-mapped (node_of l) (nodes_of v 0) x there in
        let back = list-back l place (found-low l v list consistent place c) in
        let (trail, leads) = (finds (node_of l place) back.1).0 (subst (Contains (nodes_of v 0)) (sym back.0) c) in
        subst (λ y. Reaches f y node) is (trail, back-way trail (node_of l place) leads),
    λ (way, leads). let (within, trail) = way-back way x leads in
        place-found l (nodes_of v 0) x within ((finds x within).1 (way, trail)),
  )
