-- Right values: their meaning, and rightness after a touch.
use Rattle.lot_value.proofs.Common.{Bool, Contains, Contains-append_left, Contains-append_right, Currency, DiffersAt, Edge, FitsIn, FitsLimits, Funding, HasEquation, IsEdge, IsNodeOf, IsNodeWithin, IsRight, IsRightBut, IsSmall, IsSound, IsStale, IsWay, Known, Layout, LeadsToPlace, LimitedFunding, List, Marks, MarksNodes, Mutex, Node, OfLender, OfMutex, OfTicket, Reaches, Some, Thread, ap, arith, contains-mapped, contains-nothing, ends-are, ends_of, inl, inr, layout_of, length, map, mapped-contains, node-back, node-bounded, node_count, node_of, node_place, node_value, number-within, refl, same-shares, shares_into, solution, subst, sym, value_in, values-solve, ℕ, [], ◌++◌, ◌<◌, ◌^◌, ◌∙◌, ◌∷◌, ◌≡◌, ◌≢◌, ◌⊎◌}
use Rattle.lot_value.proofs.Listed.{contains-cases}
use Rattle.lot_value.proofs.Nodes.{node-number, contains-or, node-within, within-node}

-- ---- nodes that have an equation

-- what leads to a node has one, unless it is base
source-has : (f : Funding) (from to : Node) → IsEdge f from to → from ≢ Currency 0 → HasEquation f from
source-has f from to (edge, is) differs = by edge is
  where
    by : (e : Edge) → ends_of f e ≡ Some (from, to) → HasEquation f from
    by (OfTicket n) at = let r = ends-are f (OfTicket n) from to at in
        subst (HasEquation f) (sym r.2) (λ base. differs (r.2 ∙ ap Currency base))
    by (OfLender s) at = let r = ends-are f (OfLender s) from to at in
        subst (HasEquation f) (sym r.2) (number-within f.lends s r.0 r.1)
    by (OfMutex m) at = let r = ends-are f (OfMutex m) from to at in subst (HasEquation f) (sym r.2) tt

pub has-not-base : (f : Funding) (node : Node) → HasEquation f node → node ≢ Currency 0
has-not-base f (Currency c) user same = user (ap node-number same)
has-not-base f (Thread t) there same = cc
has-not-base f (Mutex m) there same = cc

-- ---- what is right is what nodes are worth

module _ (w : LimitedFunding) (live : List Bool) (c : Known) (sound : IsSound w.funding) (fits : FitsLimits w)
    (right : IsRight w live c) where
  IsKnown : Node → Type 0
  IsKnown node = (¬ IsStale c node) × IsNodeWithin (layout_of w) node

  -- a node that isn't stale has the value that it is worth
  pub right-worth : (node : Node) → ¬ IsStale c node → IsNodeWithin (layout_of w) node → HasEquation w.funding node
      → value_in c node ≡ node_value c.unit w.funding live node
  unfolding IsKnown
  right-worth node fresh within there =
      solution w.funding sound.no_cycle sound.funds_there c.unit live (value_in c) IsKnown
      (λ from to edge known differs.
      (right.sources from to edge known.0 (contains-nothing to), fits.from edge.0 from to edge.1))
      (λ n known has. right.values n (within-node w n known.1) known.0 (contains-nothing n)) node (fresh, within) there

  -- and a node whose sources aren't stale is worth what the edges into it pass on of their values
  pub sources-worth : (node : Node) → ((from : Node) → IsEdge w.funding from node → ¬ IsStale c from)
      → HasEquation w.funding node
      → shares_into c.unit w.funding live (value_in c) node ≡ node_value c.unit w.funding live node
  sources-worth node fresh there =
      same-shares c.unit w.funding live (value_in c) (node_value c.unit w.funding live) node
      (λ from edge differs. right-worth from (fresh from edge) (fits.from edge.0 from node edge.1)
      (source-has w.funding from node edge differs))
      ∙ sym (values-solve w.funding sound.no_cycle sound.funds_there c.unit live node there)

  -- which is small
  pub sources-small : (node : Node) → ((from : Node) → IsEdge w.funding from node → ¬ IsStale c from)
      → HasEquation w.funding node → IsSmall c.unit w live
      → shares_into c.unit w.funding live (value_in c) node < 2 ^ 64
  sources-small node fresh there small =
      omega (arith, sources-worth node fresh there, node-bounded w.funding sound.no_cycle sound.funds_there c.unit live node (has-not-base w.funding node there), small)

-- ---- after a touch

-- what is marked by places is marked by nodes
pub marks-nodes : (l : Layout) (f : Funding) (old new : List ℕ) (node : Node) → FitsIn l f → IsNodeWithin l node
    → Marks l f old new node → MarksNodes f (map (node_of l) old) (map (node_of l) new) node
marks-nodes l f old new node fits within marks = record {
  kept = λ x c. let r = contains-mapped (node_of l) old x c in
      subst (Contains (map (node_of l) new)) r.2 (mapped-contains (node_of l) new r.0 (marks.kept r.0 r.1));
  marked = subst (Contains (map (node_of l) new)) (node-back l node within)
      (mapped-contains (node_of l) new (node_place l node) marks.marked);
  only = λ x c. let r = contains-mapped (node_of l) new x c in by x r.0 r.2 (marks.only r.0 r.1);
  tight = λ from to edge c none. along from to edge (contains-mapped (node_of l) new from c) none;
}
  where
    by : (x : Node) (place : ℕ) → node_of l place ≡ x → Contains old place ⊎ Reaches f node (node_of l place)
        → Contains (map (node_of l) old) x ⊎ Reaches f node x
    by x place is (inl c) = inl (subst (Contains (map (node_of l) old)) is (mapped-contains (node_of l) old place c))
    by x place is (inr reached) = inr (subst (Reaches f node) is reached)

    along : (from to : Node) → IsEdge f from to → (place : ℕ) × Contains new place × (node_of l place ≡ from)
        → ¬ Contains (map (node_of l) new) to → Contains (map (node_of l) old) from
    along from to edge (place, c, is) none =
        let out : LeadsToPlace l f (node_of l place) (node_place l to) =
        (to, subst (λ x. IsEdge f x to) (sym is) edge, refl) in
        let in_to = fits.to edge.0 from to edge.1 in
        let old_c = marks.tight place (node_place l to) out c (λ d. none (subst (Contains (map (node_of l) new))
        (node-back l to in_to) (mapped-contains (node_of l) new (node_place l to) d))) in
        subst (Contains (map (node_of l) old)) is (mapped-contains (node_of l) old place old_c)

-- what is reached has an equation, if the ends of edges have
reached-has : (f : Funding) → ((from to : Node) → IsEdge f from to → HasEquation f to)
    → (from : Node) (way : List Node) (to : Node) → HasEquation f from → IsWay f from way to → HasEquation f to
reached-has f ends from [] to has same = subst (HasEquation f) same has
reached-has f ends from (next ∷ rest) to has (first, others) =
    reached-has f ends next rest to (ends from next first) others

module _ (w : LimitedFunding) (live : List Bool) (old new : Known) (node : Node)
    (same : new ≡ record old { stale = new.stale }) (marks : MarksNodes w.funding old.stale new.stale node)
    (has : HasEquation w.funding node) where
  pub touch-right : (others : List Node) → IsRightBut w live old (node ∷ others) → IsRightBut w live new others
  touch-right others right = record {
    layout = ap (λ (c : Known). c.layout) same ∙ right.layout;
    places = ap (λ (c : Known). length c.values) same ∙ right.places
        ∙ ap (λ (c : Known). node_count c.layout) (sym same);
    ends = right.ends;
    stale = λ x c. by x (marks.only x c);
    sources = λ from to edge is off stale.
        right.sources from to edge (before to is) (other to is off) (marks.tight from to edge stale is);
    values = λ n within is off. subst (λ (c : Known). value_in c n ≡ shares_into c.unit w.funding live (value_in c) n)
        (sym same) (right.values n within (before n is) (other n is off));
  }
    where
      before : (x : Node) → ¬ IsStale new x → ¬ IsStale old x
      before x is stale = is (marks.kept x stale)

      by : (x : Node) → IsStale old x ⊎ Reaches w.funding node x → HasEquation w.funding x
      by x (inl stale) = right.stale x stale
      by x (inr (way, is)) = reached-has w.funding right.ends node way x has is

      other : (x : Node) → ¬ IsStale new x → ¬ Contains others x → ¬ Contains (node ∷ others) x
      other x is off c = either (contains-cases node others x c)
        where
          either : (node ≡ x) ⊎ Contains others x → ⊥
          either (inl at) = is (subst (Contains new.stale) at marks.marked)
          either (inr d) = off d

  -- stale nodes lead to stale nodes alone
  closed : IsRight w live new → (from : Node) (way : List Node) (to : Node) → IsStale new from
      → IsWay w.funding from way to → IsStale new to
  closed right from [] to stale at = subst (IsStale new) at stale
  closed right from (next ∷ rest) to stale (first, others) =
      closed right next rest to (by (contains-or new.stale next)) others
    where
      by : IsStale new next ⊎ (¬ IsStale new next) → IsStale new next
      by (inl is) = is
      by (inr is) = absurd (right.sources from next first is (contains-nothing next) stale)

  pub touch-exact : IsRightBut w live old (node ∷ []) → (x : Node)
      → (IsStale new x → IsStale old x ⊎ Reaches w.funding node x)
      × (IsStale old x ⊎ Reaches w.funding node x → IsStale new x)
  touch-exact right x = (marks.only x, by)
    where
      by : IsStale old x ⊎ Reaches w.funding node x → IsStale new x
      by (inl stale) = marks.kept x stale
      by (inr (way, is)) = closed (touch-right [] right) node way x marks.marked is

-- ---- after a change

-- what is right is right for another graph, except where equations have changed
pub pending-more : (before after : LimitedFunding) (live now : List Bool) (c : Known) (pending changed : List Node)
    → IsRightBut before live c pending → DiffersAt c.unit before live after now changed
    → IsRightBut after now c (changed ++ pending)
pending-more before after live now c pending changed right differs = record {
  layout = right.layout ∙ sym differs.layout;
  places = right.places;
  ends = differs.ends;
  stale = λ node is. differs.there node (right.stale node is);
  sources = λ from to edge is off.
      right.sources from to ((differs.same to (not_changed to off)).sources from edge) is (not_pending to off);
  values = λ node within is off. right.values node (in_before node within) is (not_pending node off)
      ∙ sym ((differs.same node (not_changed node off)).sums (value_in c));
}
  where
    not_changed : (x : Node) → ¬ Contains (changed ++ pending) x → ¬ Contains changed x
    not_changed x off d = off (Contains-append_left changed pending x d)

    not_pending : (x : Node) → ¬ Contains (changed ++ pending) x → ¬ Contains pending x
    not_pending x off d = off (Contains-append_right changed pending x d)

    in_before : (x : Node) → IsNodeOf after x → IsNodeOf before x
    in_before x within =
        within-node before x (subst (λ (l : Layout). IsNodeWithin l x) differs.layout (node-within after x within))
