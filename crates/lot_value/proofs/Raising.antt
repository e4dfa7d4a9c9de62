-- The stale sources of a node, moved to the back of the list.
use Rattle.lot_value.proofs.Common.{Bool, Contains, Contains-push_cases, Edge, Funding, HasEachOnce, HasSameSize, IfNone, IsConsistent, IsEdge, IsFree, IsRaising, IsReordered, IsStaleList, Layout, LeadsFromPlace, LeadsInto, List, Node, NodeLists, None, OnFalse, OnTrue, Option, Some, ap, arith, contains-nothing, ends_of, false, inl, inr, is_some, last_of, length, length-set, length_push, node_at, node_place, nodes_of, pair, refl, remove, slice_get, some-injective, subst, sym, true, with_pushed, with_removed, ℕ, [], ◌++◌, ◌-◌, ◌∙◌, ◌∷◌, ◌≡◌, ◌⊎◌}
use Rattle.lot_value.proofs.Listed.{last-pushed, moved-is, reordered-move, reordered-same, reordered-then}

-- the list after a change that keeps its size
pub same-list : (v w : NodeLists) (count : ℕ) → IsStaleList v count → HasSameSize v w → IsConsistent w
    → IsStaleList w count
same-list v w count is size consistent =
    record { one = size.1 ∙ is.one; nodes = size.0 ∙ is.nodes; consistent = consistent }

pub free-none : (v : NodeLists) (x : ℕ) (o : Option ℕ) (test : Bool) → test ≡ is_some o → test ≡ false
    → IfNone o (IsFree v x) → ¬ Contains (nodes_of v 0) x
free-none v x None test is e none = none 0
free-none v x (Some list) test is e none = cc

pub raising-start : (l : Layout) (f : Funding) (node : Node) (v : NodeLists) → IsRaising l f node v v [] false
raising-start l f node v =
    record { reordered = reordered-same (nodes_of v 0); source = λ e. cc; same = λ e. refl; none = λ e edge from c. absurd (contains-nothing edge c) }

module _ (l : Layout) (f : Funding) (node : Node) (old now : NodeLists) (seen : List Edge) (raised : Bool)
    (is : IsRaising l f node old now seen raised) (edge : Edge) (from : Node)
    (at : ends_of f edge ≡ Some (from, node)) where
  -- an edge from a stale source, which is moved
  pub raising-moved : (new : NodeLists) (place : ℕ) → length now.lists ≡ 1 → node_at now 0 place
      ≡ Some (node_place l from) → new ≡ with_pushed (with_removed now 0 place) 0 (node_place l from)
      → IsRaising l f node old new (seen ++ edge ∷ []) true
  raising-moved new place one here new_is =
      let source = node_place l from in
      let left = remove (nodes_of now 0) place in
      let xs_are : nodes_of new 0 ≡ left ++ source ∷ [] =
      moved-is now new place source one (length-set now.lists 0 left ∙ one) new_is in record {
        reordered = reordered-then (nodes_of old 0) (nodes_of now 0) (nodes_of new 0) is.reordered
            (subst (IsReordered (nodes_of now 0)) (sym xs_are) (reordered-move (nodes_of now 0) place source here));
        source = λ _. (
          source,
          ap (λ (xs : List ℕ). slice_get xs (length xs - 1)) xs_are
              ∙ ap (slice_get (left ++ source ∷ [])) (omega (arith, length_push left source)) ∙ last-pushed left source,
          (from, (edge, at), refl),
        );
        same = λ e. cc;
        none = λ e. cc;
      }

  -- an edge from a source that isn't stale
  pub raising-kept : ¬ Contains (nodes_of now 0) (node_place l from)
      → IsRaising l f node old now (seen ++ edge ∷ []) raised
  raising-kept off = record {
    reordered = is.reordered;
    source = is.source;
    same = is.same;
    none = λ calm other source c ends. by calm other source ends (Contains-push_cases seen edge other c);
  }
    where
      by : raised ≡ false → (other : Edge) (source : Node) → ends_of f other ≡ Some (source, node)
          → Contains seen other ⊎ (edge ≡ other) → ¬ Contains (nodes_of old 0) (node_place l source)
      by calm other source ends (inl c) = is.none calm other source c ends
      by calm other source ends (inr same) =
          let both = some-injective (pair from node) (pair source node) (sym at ∙ ap (ends_of f) same ∙ ends) in
          let one : from ≡ source = ap (λ p. p.0) both in
          subst (λ (v : NodeLists). ¬ Contains (nodes_of v 0) (node_place l source)) (is.same calm)
          (subst (λ x. ¬ Contains (nodes_of now 0) (node_place l x)) one off)

-- all edges into the node were looked at
pub raising-raised : (l : Layout) (f : Funding) (node : Node) (old now : NodeLists) (seen : List Edge) (raised : Bool)
    → IsRaising l f node old now seen raised
    → OnTrue raised ((place : ℕ) × (last_of now ≡ Some place) × LeadsFromPlace l f place node)
raising-raised l f node old now seen true is = is.source refl
raising-raised l f node old now seen false is = tt

pub raising-none : (l : Layout) (f : Funding) (node : Node) (old now : NodeLists) (seen : List Edge) (raised : Bool)
    → IsRaising l f node old now seen raised → HasEachOnce seen (LeadsInto f node)
    → OnFalse raised
    ((now ≡ old) × ((from : Node) → IsEdge f from node → ¬ Contains (nodes_of old 0) (node_place l from)))
raising-none l f node old now seen true is all = tt
raising-none l f node old now seen false is all =
    (is.same refl, λ from edge. is.none refl edge.0 from (all.all edge.0 (from, edge.1)) edge.1)
