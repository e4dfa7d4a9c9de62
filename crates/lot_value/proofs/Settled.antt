-- The next node to settle, and its right value afterwards.
use Rattle.lot_value.proofs.Common.{Bool, Contains, FitsIn, FitsLimits, Funding, HasNoCycle, IfSome, IsEdge, IsFree, IsFreshPlace, IsNodeOf, IsNodeWithin, IsReordered, IsRight, IsStale, IsStaleList, Known, Layout, LeadsFromPlace, LimitedFunding, List, Node, NodeLists, None, Option, Settles, Some, ap, arith, contains-at, contains-later, contains-mapped, contains-nothing, counted_up, edge_count_into, edges_into_all, get_or-set_at, get_or-set_other, inl, inr, is_some, kept_worth, layout_of, left-before, length, length-set, list-back, map, mapped-at, mapped-contains, node-back, node_at, node_count, node_of, node_place, nodes_of, refl, remove, same-list, same-shares, set, shares_into, slice_get, slice_index, still-left, subst, suc, sum_by, sym, true, value_in, with_removed, zero, ℕ, [], ◌+◌, ◌-◌, ◌<◌, ◌∙◌, ◌∷◌, ◌≡◌, ◌⊎◌}
use Rattle.lot_value.proofs.Rank.{rank, rank-rises}
use Rattle.lot_value.proofs.Counting.{counted-more}
use Rattle.lot_value.proofs.Listed.{contains-first, listed-low, list-within, removed-is, sum-taken}
use Rattle.lot_value.proofs.Mapped.{sum-mapped, length-mapped, place-mapped}
use Rattle.lot_value.proofs.Reading.{length-ones}
use Rattle.lot_value.proofs.Nodes.{same-or-not, node-within}

-- one more than the rank of the node of a place, if there is one
abbrev pub rank_of : Layout → Funding → Option ℕ → ℕ
rank_of l f None = 0
rank_of l f (Some place) = suc (rank l f (node_of l place))

-- a source has a smaller rank
pub rank-falls : (l : Layout) (f : Funding) → FitsIn l f → HasNoCycle f → (o p : Option ℕ) (place source : ℕ)
    → o ≡ Some place → p ≡ Some source → LeadsFromPlace l f source (node_of l place) → rank_of l f p < rank_of l f o
rank-falls l f fits no_cycle o p place source o_is p_is (from, edge, at) =
    let back : node_of l source ≡ from = ap (node_of l) (sym at)
    ∙ node-back l from (fits.from edge.0 from (node_of l place) edge.1) in
    omega (arith, rank-rises l f fits no_cycle from (node_of l place) edge, ap (rank_of l f) o_is, ap (rank_of l f) p_is, ap (rank l f) back)

-- an order of the stale nodes is nothing to what is right
pub reordered-right : (w : LimitedFunding) (live : List Bool) (c : Known) (stale : List Node)
    → IsReordered c.stale stale → IsRight w live c → IsRight w live (record c { stale = stale })
reordered-right w live c stale reordered right = record {
  layout = right.layout;
  places = right.places;
  ends = right.ends;
  stale = λ node is. right.stale node (reordered.each node is);
  sources = λ from to edge is off stale.
      right.sources from to edge (λ d. is (reordered.all to d)) off (reordered.each from stale);
  values = λ node within is off. right.values node within (λ d. is (reordered.all node d)) off;
}

-- nor is what was counted
pub reads-right : (w : LimitedFunding) (live : List Bool) (c : Known) (reads : ℕ) → IsRight w live c
    → IsRight w live (record c { reads = reads })
reads-right w live c reads right = record {
  layout = right.layout;
  places = right.places;
  ends = right.ends;
  stale = right.stale;
  sources = right.sources;
  values = right.values;
}

pub reordered-empty : {A : Type 0} (old : List A) → IsReordered old [] → old ≡ []
reordered-empty [] reordered = refl
reordered-empty (x ∷ xs) reordered = absurd (contains-nothing x (reordered.all x (contains-first x xs)))

pub first-none : (xs : List ℕ) → None ≡ slice_get xs 0 → xs ≡ []
first-none [] is = refl
first-none (x ∷ xs) is = cc

pub last-none : (xs : List ℕ) (o : Option ℕ) → o ≡ slice_get xs (length xs - 1) → o ≡ None → xs ≡ []
last-none [] o is none = refl
last-none (x ∷ xs) o is none =
    absurd (by (x ∷ xs) (length xs) (omega arith) (ap (slice_get (x ∷ xs)) (omega arith) ∙ sym is ∙ none))
  where
    by : (ys : List ℕ) (i : ℕ) → i < length ys → slice_get ys i ≡ None → ⊥
    by [] i low e = absurd (omega (arith, low))
    by (y ∷ ys) zero low e = cc
    by (y ∷ ys) (suc i) low e = by ys i (omega (arith, low)) e

pub length-reordered : {A : Type 0} (old new : List A) → IsReordered old new → length new ≡ length old
length-reordered old new reordered = sym (length-ones new) ∙ reordered.sums (λ x. 1) ∙ length-ones old

-- one node gets the sum of its shares, and isn't stale any more
module _ (w : LimitedFunding) (live : List Bool) (c : Known) (fits : FitsLimits w) (right : IsRight w live c)
    (rest : List Node) (node : Node) (value reads : ℕ) (was : IsStale c node) (within : IsNodeWithin (layout_of w) node)
    (low : node_place c.layout node < length c.values)
    (fresh : (from : Node) → IsEdge w.funding from node → ¬ IsStale c from)
    (is : value ≡ shares_into c.unit w.funding live (value_in c) node) (each : (x : Node) → Contains rest x
    → IsStale c x) (others : (x : Node) → ¬ (x ≡ node) → IsStale c x → Contains rest x) where
  abbrev after : Known
  after = record c { values = set c.values (node_place c.layout node) value; stale = rest; reads = reads }

  -- the value of another node is as it was
  kept : (x : Node) → IsNodeWithin (layout_of w) x → ¬ (x ≡ node) → value_in after x ≡ value_in c x
  kept x in_x off =
      get_or-set_other c.values (node_place c.layout node) (node_place c.layout x) value 0
      (λ same. off (same-list (layout_of w) x node in_x within (ap (λ (l : Layout). node_place l x) (sym right.layout)
      ∙ same ∙ ap (λ (l : Layout). node_place l node) right.layout)))

  -- so is that of a source that isn't stale
  source-kept : (from to : Node) → IsEdge w.funding from to → ¬ IsStale c from → value_in after from ≡ value_in c from
  source-kept from to edge off =
      kept from (fits.from edge.0 from to edge.1) (λ same. off (subst (IsStale c) (sym same) was))

  pub settled-right : IsRight w live
      (record c { values = set c.values (node_place c.layout node) value; stale = rest; reads = reads })
  settled-right = record {
    layout = right.layout;
    places = length-set c.values (node_place c.layout node) value ∙ right.places;
    ends = right.ends;
    stale = λ x d. right.stale x (each x d);
    sources = λ from to edge off none d. to_sources from to edge (same-or-not to node) off (each from d);
    values = λ n in_n off none. at n in_n off (same-or-not n node);
  }
    where
      to_sources : (from to : Node) → IsEdge w.funding from to → (to ≡ node) ⊎ (¬ (to ≡ node)) → ¬ Contains rest to
          → ¬ IsStale c from
      to_sources from to edge (inl same) off = fresh from (subst (IsEdge w.funding from) same edge)
      to_sources from to edge (inr other) off =
          right.sources from to edge (λ d. off (others to other d)) (contains-nothing to)

      at : (n : Node) → IsNodeOf w n → ¬ Contains rest n → (n ≡ node) ⊎ (¬ (n ≡ node))
          → value_in after n ≡ shares_into c.unit w.funding live (value_in after) n
      at n in_n off (inl same) =
          ap (value_in after) same ∙ get_or-set_at c.values (node_place c.layout node) (node_place c.layout node) value
          0 refl low ∙ is ∙ ap (shares_into c.unit w.funding live (value_in c)) (sym same)
          ∙ sym (same-shares c.unit w.funding live (value_in after) (value_in c) n
          (λ from edge differs. source-kept from n edge (fresh from (subst (IsEdge w.funding from) same edge))))
      at n in_n off (inr other) =
          let n_fresh : ¬ IsStale c n = λ d. off (others n other d) in
          kept n (node-within w n in_n) other ∙ right.values n in_n n_fresh (contains-nothing n)
          ∙ sym (same-shares c.unit w.funding live (value_in after) (value_in c) n
          (λ from edge differs. source-kept from n edge (right.sources from n edge n_fresh (contains-nothing n))))

-- the place at the back is settled, if none of its sources is stale
module _ (w : LimitedFunding) (live : List Bool) (fits : FitsLimits w) (old : Known) (right : IsRight w live old)
    (v u : NodeLists) (at place value reads : ℕ) (list : IsStaleList v (node_count old.layout))
    (reordered : IsReordered old.stale (map (node_of old.layout) (nodes_of v 0))) (here : node_at v 0 at ≡ Some place)
    (u_is : u ≡ with_removed v 0 at) where
  abbrev at_node : Node
  at_node = node_of old.layout place

  low : place < node_count old.layout
  low = listed-low v (node_count old.layout) at place list here

  abbrev rest : List Node
  rest = map (node_of old.layout) (nodes_of u 0)

  rest-is : nodes_of u 0 ≡ remove (nodes_of v 0) at
  rest-is = removed-is v u at list.one u_is

  was : Contains old.stale at_node
  was = reordered.each at_node
      (mapped-contains (node_of old.layout) (nodes_of v 0) place (contains-at (nodes_of v 0) at place here))

  each : (x : Node) → Contains rest x → Contains old.stale x
  each x c =
      let r = contains-mapped (node_of old.layout) (nodes_of u 0) x c in
      let before = left-before (nodes_of v 0) at r.0 (subst (λ (xs : List ℕ). Contains xs r.0) rest-is r.1) in
      reordered.each x (subst (Contains (map (node_of old.layout) (nodes_of v 0))) r.2
      (mapped-contains (node_of old.layout) (nodes_of v 0) r.0 before))

  others : (x : Node) → ¬ (x ≡ at_node) → Contains old.stale x → Contains rest x
  others x off c =
      let r = contains-mapped (node_of old.layout) (nodes_of v 0) x (reordered.all x c) in
      let left =
      still-left (nodes_of v 0) at place r.0 here (λ same. off (sym r.2 ∙ ap (node_of old.layout) same)) r.1 in
      subst (Contains rest) r.2 (mapped-contains (node_of old.layout) (nodes_of u 0) r.0
      (subst (λ (xs : List ℕ). Contains xs r.0) (sym rest-is) left))

  sums : (f : Node → ℕ) → sum_by f rest + f at_node ≡ sum_by f old.stale
  sums f =
      ap (λ n. n + f at_node)
      (sum-mapped (node_of old.layout) f (nodes_of u 0) ∙ ap (sum_by (λ p. f (node_of old.layout p))) rest-is)
      ∙ sum-taken (λ p. f (node_of old.layout p)) (nodes_of v 0) at place here
      ∙ sym (sum-mapped (node_of old.layout) f (nodes_of v 0)) ∙ reordered.sums f

  done : IsFree u place → ¬ Contains rest at_node
  done free c =
      let r = contains-mapped (node_of old.layout) (nodes_of u 0) at_node c in
      let there = left-before (nodes_of v 0) at r.0 (subst (λ (xs : List ℕ). Contains xs r.0) rest-is r.1) in
      let r_low = list-within v (node_count old.layout) list r.0 there in
      let same : r.0 ≡ place = sym (list-back old.layout r.0 r_low).0 ∙ ap (node_place old.layout) r.2
      ∙ (list-back old.layout place low).0 in
      free 0 (subst (Contains (nodes_of u 0)) same r.1)

  at-within : IsNodeWithin (layout_of w) at_node
  at-within = subst (λ (l : Layout). IsNodeWithin l at_node) right.layout (list-back old.layout place low).1

  module _ (fresh : (from : Node) → IsEdge w.funding from at_node
      → ¬ Contains (nodes_of v 0) (node_place old.layout from)) where
    -- none of its sources is stale
    pub source-fresh : (from : Node) → IsEdge w.funding from at_node → ¬ IsStale old from
    source-fresh from edge stale =
        let in_from : IsNodeWithin old.layout from =
        subst (λ (l : Layout). IsNodeWithin l from) (sym right.layout) (fits.from edge.0 from at_node edge.1) in
        let mapped = place-mapped old.layout (nodes_of v 0) from in_from (list-within v (node_count old.layout) list) in
        fresh from edge (mapped.1 (reordered.all from stale))

    module _ (values : List ℕ) (same : values ≡ old.values)
        (is : value ≡ shares_into old.unit w.funding live (value_in old) at_node) where
      pub settle-right : IsRight w live (record old { values = set values place value; stale = rest; reads = reads })
      settle-right =
          let back = (list-back old.layout place low).0 in
          let place_low : node_place old.layout at_node < length old.values = omega (arith, back, low, right.places) in
          subst
          (λ (p : ℕ). IsRight w live (record old { values = set values p value; stale = rest; reads = reads })) back
          (subst (λ (vs : List ℕ). IsRight w live
          (record old { values = set vs (node_place old.layout at_node) value; stale = rest; reads = reads }))
          (sym same) (settled-right w live old fits right rest at_node value reads was at-within place_low source-fresh
          is each others))

    pub settle-settles : (values : List ℕ) → values ≡ old.values → IsFree u place
        → Settles old (record old { values = set values place value; stale = rest; reads = reads }) at_node
    settle-settles values same free = record {
      unit = refl;
      layout = refl;
      was = was;
      done = done free;
      fewer =
          omega (arith, length-mapped (node_of old.layout) (nodes_of u 0), ap (length {A = ℕ}) rest-is, sum-taken (λ p. 1) (nodes_of v 0) at place here, length-ones (nodes_of v 0), length-ones (remove (nodes_of v 0) at), length-mapped (node_of old.layout) (nodes_of v 0), length-reordered old.stale (map (node_of old.layout) (nodes_of v 0)) reordered);
      each = each;
      others = others;
      sums = sums;
      values = λ other off. get_or-set_other values place other value 0 (λ at_place.
          off (at_place ∙ sym (list-back old.layout place low).0)) ∙ ap (λ (vs : List ℕ). slice_index vs other) same;
    }

-- the place of a node that is listed, and none of whose sources is
pub fresh-place : (l : Layout) (f : Funding) (v : NodeLists) (at place : ℕ) (node : Node) → node_at v 0 at ≡ Some place
    → node ≡ node_of l place → ((from : Node) → IsEdge f from node → ¬ Contains (nodes_of v 0) (node_place l from))
    → IsFreshPlace l f (nodes_of v 0) place
fresh-place l f v at place node here node_is fresh = record {
  listed = contains-at (nodes_of v 0) at place here;
  sources = subst
      (λ (x : Node). (from : Node) → IsEdge f from x → ¬ Contains (nodes_of v 0) (node_place l from)) node_is fresh;
}

-- the places of the stale nodes are those that are listed
pub places-back : (l : Layout) (places : List ℕ) → ((place : ℕ) → Contains places place → place < node_count l)
    → map (node_place l) (map (node_of l) places) ≡ places
places-back l [] within = refl
places-back l (place ∷ rest) within =
    ap (λ (x : ℕ). x ∷ map (node_place l) (map (node_of l) rest))
    (list-back l place (within place (contains-first place rest))).0
    ∙ ap (λ (xs : List ℕ). place ∷ xs) (places-back l rest (λ x c. within x (contains-later place rest x c)))

-- a node is settled from another order of the stale nodes
pub reordered-settles : (old new : Known) (stale : List Node) (node : Node) → IsReordered old.stale stale
    → Settles (record old { stale = stale }) new node → Settles old new node
reordered-settles old new stale node reordered is = record {
  unit = is.unit;
  layout = is.layout;
  was = reordered.each node is.was;
  done = is.done;
  fewer = is.fewer ∙ length-reordered old.stale stale reordered;
  each = λ other c. reordered.each other (is.each other c);
  others = λ other off c. is.others other off (reordered.all other c);
  sums = λ f. is.sums f ∙ reordered.sums f;
  values = is.values;
}

-- nothing is stale
pub nothing-stale : (l : Layout) (old : List Node) (v : NodeLists) → IsReordered old (map (node_of l) (nodes_of v 0))
    → nodes_of v 0 ≡ [] → old ≡ []
nothing-stale l old v reordered empty =
    reordered-empty old (subst (IsReordered old) (ap (map (node_of l)) empty) reordered)

-- one more node is settled: what was counted, and what is to come
pub settle-more : (f : Funding) (start before after : ℕ) (old : List Node) (was now : Known) (o : Option Node)
    (test : Bool) → test ≡ is_some o → test ≡ true
    → IfSome o (Settles was now) → IfSome o (λ node. after ≡ counted_up before (edge_count_into f node))
    → (count : ℕ) × (before ≡ counted_up start count) × (count + edges_into_all f was.stale ≡ edges_into_all f old)
    → (count : ℕ) × (after ≡ counted_up start count) × (count + edges_into_all f now.stale ≡ edges_into_all f old)
settle-more f start before after old was now None test is e settles counted so_far = cc
settle-more f start before after old was now (Some node) test is e settles counted (count, before_is, left) = (
  count + edge_count_into f node,
  counted ∙ ap (λ b. counted_up b (edge_count_into f node)) before_is
      ∙ counted-more start count (edge_count_into f node),
  omega (arith, left, settles.sums (edge_count_into f)),
)

pub settled-unit : (was now : Known) (o : Option Node) (test : Bool) → test ≡ is_some o → test ≡ true
    → IfSome o (Settles was now) → now.unit ≡ was.unit
settled-unit was now None test is e settles = cc
settled-unit was now (Some node) test is e settles = settles.unit

pub settled-shorter : (was now : Known) (o : Option Node) (test : Bool) → test ≡ is_some o → test ≡ true
    → IfSome o (Settles was now) → length now.stale < length was.stale
settled-shorter was now None test is e settles = cc
settled-shorter was now (Some node) test is e settles = omega (arith, settles.fewer)

-- no node is listed twice
pub once-mapped : (l : Layout) (v : NodeLists) → IsStaleList v (node_count l) → (node : Node) (place other : ℕ)
    → slice_get (map (node_of l) (nodes_of v 0)) place ≡ Some node
    → slice_get (map (node_of l) (nodes_of v 0)) other ≡ Some node → place ≡ other
once-mapped l v list node place other at at_other =
    let a = mapped-at (node_of l) (nodes_of v 0) place node at in
    let b = mapped-at (node_of l) (nodes_of v 0) other node at_other in
    let a_low = listed-low v (node_count l) place a.0 list a.1 in
    let b_low = listed-low v (node_count l) other b.0 list b.1 in
    let same : a.0 ≡ b.0 = sym (list-back l a.0 a_low).0 ∙ ap (node_place l) (a.2 ∙ sym b.2)
    ∙ (list-back l b.0 b_low).0 in
    (list.consistent.disjoint a.0 0 place 0 other a.1 (b.1 ∙ ap Some (sym same))).1

-- what is known, field by field
pub known-same : (a b : Known) → a.unit ≡ b.unit → a.layout ≡ b.layout → a.values ≡ b.values → a.stale ≡ b.stale
    → a.reads ≡ b.reads → a ≡ b
known-same a b unit layout values stale reads =
    ap (λ x. known x a.layout a.values a.stale a.reads) unit ∙ ap (λ x. known b.unit x a.values a.stale a.reads) layout
    ∙ ap (λ x. known b.unit b.layout x a.stale a.reads) values
    ∙ ap (λ x. known b.unit b.layout b.values x a.reads) stale
    ∙ ap (λ x. known b.unit b.layout b.values b.stale x) reads
  where
    known : ℕ → Layout → List ℕ → List Node → ℕ → Known
    known u l vs xs n = record { unit = u; layout = l; values = vs; stale = xs; reads = n }

-- what is passed on, by the places of another layout that is the same
pub shares-at : (unit : ℕ) (f : Funding) (live : List Bool) (l m : Layout) (vs us : List ℕ) (node other : Node) → l ≡ m
    → vs ≡ us → node ≡ other
    → shares_into unit f live (kept_worth l vs) node ≡ shares_into unit f live (kept_worth m us) other
shares-at unit f live l m vs us node other layout values same =
    ap (λ x. shares_into unit f live (kept_worth x vs) node) layout ∙ ap
    (λ x. shares_into unit f live (kept_worth m x) node) values ∙ ap (shares_into unit f live (kept_worth m us)) same
