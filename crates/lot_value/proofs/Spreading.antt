-- Marks that spread from a touched node.
use Rattle.lot_value.proofs.Common.{Bool, Contains, Contains-append_left, Contains-append_right, Contains-push_cases, Currency, Edge, FitsIn, Funding, HasEachOnce, IfNone, IfSome, IsConsistent, IsEdge, IsFree, IsIssuedIn, IsNodeWithin, IsSome, Layout, LeadsOutOf, LeadsToPlace, List, Marks, Mutex, Node, NodeLists, None, OfLender, OfMutex, OfTicket, Option, Reaches, Some, Spreads, Thread, Ticket, ap, arith, cases_eq, cases_lt, contains-at, contains-nothing, edge-reaches, ends-ticket, ends_of, false, get_or, inl, inr, is_some, issuer-of, lender-ends, length, map, map-append, mapped-contains, mutex-ends, node-back, node_at, node_of, node_place, nodes_of, not, only-list, option_and_then, option_map, pair, place-after, place-in, reaches-then, refl, slice_get, slice_get-get_or, slice_get_within, some-injective, subst, suc, sym, target_node, ticket-ends, ticket_at, true, with_pushed, zero, ℕ, [], ◌++◌, ◌+◌, ◌-◌, ◌<◌, ◌∙◌, ◌∷◌, ◌≡◌, ◌≤◌, ◌⊎◌}
use Rattle.lot_value.proofs.Listed.{contains-first, last-pushed, pushed-is}

-- ---- the test of what is listed

pub list-test : (v : NodeLists) (x : ℕ) (o : Option ℕ) → length v.lists ≡ 1
    → IfSome o (λ list. Contains (nodes_of v list) x) → IfNone o (IsFree v x)
    → (IsSome o → Contains (nodes_of v 0) x) × (Contains (nodes_of v 0) x → IsSome o)
list-test v x None one some none = (λ no. cc, λ c. absurd (none 0 c))
list-test v x (Some list) one some none = (λ yes. only-list v list x one some, λ c. refl)

pub found-listed : (v : NodeLists) (x : ℕ) (o : Option ℕ) (test : Bool) → length v.lists ≡ 1 → is_some o ≡ not test
    → test ≡ false → IfSome o (λ list. Contains (nodes_of v list) x) → Contains (nodes_of v 0) x
found-listed v x None true one is e some = cc
found-listed v x None false one is e some = cc
found-listed v x (Some list) test one is e some = only-list v list x one some

pub found-free : (o : Option ℕ) (test : Bool) (P : Type 0) → is_some o ≡ not test → test ≡ true → IfNone o P → P
found-free None test P is e h = h
found-free (Some x) true P is e h = cc
found-free (Some x) false P is e h = cc

pub listed-some : (v : NodeLists) (x : ℕ) (o : Option ℕ) (test : Bool) → length v.lists ≡ 1 → test ≡ is_some o
    → test ≡ true → IfSome o (λ list. Contains (nodes_of v list) x) → Contains (nodes_of v 0) x
listed-some v x None test one is e some = cc
listed-some v x (Some list) test one is e some = only-list v list x one some

pub listed-free : (o : Option ℕ) (test : Bool) (P : Type 0) → test ≡ is_some o → test ≡ false → IfNone o P → P
listed-free None test P is e h = h
listed-free (Some x) test P is e h = cc

-- ---- spreading

pub spread-none : (v : NodeLists) (IsSo : ℕ → Type 0) → ((x : ℕ) → IsSo x → Contains (nodes_of v 0) x)
    → Spreads v v IsSo
spread-none v IsSo there = record { kept = λ place x at. at; each = λ x c. inl c; all = there }

pub spread-push : (v w : NodeLists) (node : ℕ) → length v.lists ≡ 1 → w ≡ with_pushed v 0 node
    → Spreads v w (λ x. x ≡ node)
spread-push v w node one is = record {
  kept = λ place x at. subst (λ (xs : List ℕ). slice_get xs place ≡ Some x) (sym here)
      (place-after (nodes_of v 0) (node ∷ []) place x at);
  each = λ x c. by x (Contains-push_cases (nodes_of v 0) node x (subst (λ (xs : List ℕ). Contains xs x) here c));
  all = λ x same. subst (λ (xs : List ℕ). Contains xs x) (sym here)
      (Contains-append_right (nodes_of v 0) (node ∷ []) x (zero, omega arith, sym same));
}
  where
    here : nodes_of w 0 ≡ nodes_of v 0 ++ node ∷ []
    here = pushed-is v w node one is

    by : (x : ℕ) → Contains (nodes_of v 0) x ⊎ (node ≡ x) → Contains (nodes_of v 0) x ⊎ (x ≡ node)
    by x (inl c) = inl c
    by x (inr same) = inr (sym same)

-- what the one edge out of a node leads to is added
pub spread-edge : (l : Layout) (f : Funding) (from to : Node) (v w : NodeLists) (place : ℕ) → IsEdge f from to
    → ((x : Node) → IsEdge f from x → to ≡ x) → place ≡ node_place l to → Spreads v w (λ x. x ≡ place)
    → Spreads v w (LeadsToPlace l f from)
spread-edge l f from to v w place edge only is spreads = record {
  kept = spreads.kept;
  each = λ x c. by x (spreads.each x c);
  all = λ x (other, other_edge, here).
      spreads.all x (sym here ∙ ap (node_place l) (sym (only other other_edge)) ∙ sym is);
}
  where
    by : (x : ℕ) → Contains (nodes_of v 0) x ⊎ (x ≡ place) → Contains (nodes_of v 0) x ⊎ LeadsToPlace l f from x
    by x (inl before) = inl before
    by x (inr same) = inr (to, edge, sym (same ∙ is))

spread-contains : (v w : NodeLists) (IsSo : ℕ → Type 0) → Spreads v w IsSo → (x : ℕ) → Contains (nodes_of v 0) x
    → Contains (nodes_of w 0) x
spread-contains v w IsSo spreads x c = let r = place-in (nodes_of v 0) x c in
    contains-at (nodes_of w 0) r.0 x (spreads.kept r.0 x r.1)

-- one more is added
pub spread-more : (v w u : NodeLists) (P R : ℕ → Type 0) (node : ℕ) → Spreads v w P → Spreads w u (λ x. x ≡ node)
    → ((x : ℕ) → P x → R x) → R node → ((x : ℕ) → R x → P x ⊎ (x ≡ node)) → Spreads v u R
spread-more v w u P R node first second early late either = record {
  kept = λ place x at. second.kept place x (first.kept place x at);
  each = λ x c. after x (second.each x c);
  all = λ x so. all x (either x so);
}
  where
    before : (x : ℕ) → Contains (nodes_of v 0) x ⊎ P x → Contains (nodes_of v 0) x ⊎ R x
    before x (inl c) = inl c
    before x (inr so) = inr (early x so)

    after : (x : ℕ) → Contains (nodes_of w 0) x ⊎ (x ≡ node) → Contains (nodes_of v 0) x ⊎ R x
    after x (inl c) = before x (first.each x c)
    after x (inr same) = inr (subst R (sym same) late)

    all : (x : ℕ) → P x ⊎ (x ≡ node) → Contains (nodes_of u 0) x
    all x (inl so) = spread-contains w u (λ y. y ≡ node) second x (first.all x so)
    all x (inr same) = second.all x same

pub spread-by : (v w : NodeLists) (P Q : ℕ → Type 0) → Spreads v w P → ((x : ℕ) → P x → Q x) → ((x : ℕ) → Q x → P x)
    → Spreads v w Q
spread-by v w P Q spreads to back =
    record { kept = spreads.kept; each = λ x c. by x (spreads.each x c); all = λ x so. spreads.all x (back x so) }
  where
    by : (x : ℕ) → Contains (nodes_of v 0) x ⊎ P x → Contains (nodes_of v 0) x ⊎ Q x
    by x (inl c) = inl c
    by x (inr so) = inr (to x so)

-- ---- the search

-- As many of the places that were listed after the old ones were followed: what edges lead to from them is listed.
pub record IsFollowed (l : Layout) (f : Funding) (old : List ℕ) (v : NodeLists) (node : Node) (count : ℕ) : Type 0 where
  pub kept : (place x : ℕ) → slice_get old place ≡ Some x → node_at v 0 place ≡ Some x
  pub marked : node_at v 0 (length old) ≡ Some (node_place l node)
  pub only : (x : ℕ) → Contains (nodes_of v 0) x → Contains old x ⊎ Reaches f node (node_of l x)
  pub followed : (i x to : ℕ) → i < count → node_at v 0 (length old + i) ≡ Some x → LeadsToPlace l f (node_of l x) to
      → Contains (nodes_of v 0) to

pub followed-start : (l : Layout) (f : Funding) (v w : NodeLists) (node : Node) → IsNodeWithin l node
    → length v.lists ≡ 1 → w ≡ with_pushed v 0 (node_place l node) → IsFollowed l f (nodes_of v 0) w node 0
followed-start l f v w node within one is =
    let place = node_place l node in
    let here = pushed-is v w place one is in record {
      kept = (spread-push v w place one is).kept;
      marked = ap (λ (xs : List ℕ). slice_get xs (length (nodes_of v 0))) here ∙ last-pushed (nodes_of v 0) place;
      only = λ x c. by x (Contains-push_cases (nodes_of v 0) place x (subst (λ (xs : List ℕ). Contains xs x) here c));
      followed = λ i x to low. absurd (omega arith);
    }
  where
    by : (x : ℕ) → Contains (nodes_of v 0) x ⊎ (node_place l node ≡ x)
        → Contains (nodes_of v 0) x ⊎ Reaches f node (node_of l x)
    by x (inl c) = inl c
    by x (inr same) = inr ([], sym (node-back l node within) ∙ ap (node_of l) same)

module _ (l : Layout) (f : Funding) (fits : FitsIn l f) (old : List ℕ) (v w : NodeLists) (node : Node) (count from : ℕ)
    (consistent : IsConsistent v) (is : IsFollowed l f old v node count)
    (at : node_at v 0 (length old + count) ≡ Some from)
    (spreads : Spreads v w (LeadsToPlace l f (node_of l from))) where
  from-reached : Reaches f node (node_of l from)
  from-reached = by (is.only from (contains-at (nodes_of v 0) (length old + count) from at))
    where
      by : Contains old from ⊎ Reaches f node (node_of l from) → Reaches f node (node_of l from)
      by (inl c) =
          let r = place-in old from c in
          let low = slice_get_within old r.0 from r.1 in
          let same = consistent.disjoint from 0 r.0 0 (length old + count) (is.kept r.0 from r.1) at in
          absurd (omega (arith, low, same.1))
      by (inr reached) = reached

  -- the place of a node that was listed before
  listed-before : (place x y : ℕ) → node_at w 0 place ≡ Some x → node_at v 0 place ≡ Some y → node_at v 0 place ≡ Some x
  listed-before place x y here there = there ∙ sym (spreads.kept place y there) ∙ here

  pub followed-more : IsFollowed l f old w node (count + 1)
  followed-more = record {
    kept = λ place x here. spreads.kept place x (is.kept place x here);
    marked = spreads.kept (length old) (node_place l node) is.marked;
    only = λ x c. by x (spreads.each x c);
    followed = λ i x to low here edge. again i x to here edge (cases_eq i count) low;
  }
    where
      by : (x : ℕ) → Contains (nodes_of v 0) x ⊎ LeadsToPlace l f (node_of l from) x
          → Contains old x ⊎ Reaches f node (node_of l x)
      by x (inl c) = is.only x c
      by x (inr (to, edge, place)) =
          let back : node_of l x ≡ to = ap (node_of l) (sym place)
          ∙ node-back l to (fits.to edge.0 (node_of l from) to edge.1) in
          inr (subst (Reaches f node) (sym back)
          (reaches-then f node (node_of l from) to from-reached (edge-reaches f (node_of l from) to edge)))

      again : (i x to : ℕ) → node_at w 0 (length old + i) ≡ Some x → LeadsToPlace l f (node_of l x) to
          → (i ≡ count) ⊎ (¬ (i ≡ count)) → i < count + 1 → Contains (nodes_of w 0) to
      again i x to here edge (inl same) low =
          let x_is : x ≡ from = some-injective x from
          (sym here ∙ ap (λ j. node_at w 0 (length old + j)) same ∙ spreads.kept (length old + count) from at) in
          spreads.all to (subst (λ y. LeadsToPlace l f (node_of l y) to) x_is edge)
      again i x to here edge (inr off) low =
          let within = slice_get_within (nodes_of v 0) (length old + count) from at in
          let there = slice_get-get_or (nodes_of v 0) (length old + i) 0 (omega arith) in
          spread-contains v w (LeadsToPlace l f (node_of l from)) spreads to
          (is.followed i x to (omega arith) (listed-before (length old + i) x _ here there) edge)

-- nothing is left to follow
pub followed-end : (v : NodeLists) (start count : ℕ) (o : Option ℕ) → o ≡ node_at v 0 (start + count) → o ≡ None
    → length (nodes_of v 0) ≤ start + count
followed-end v start count o is none = by (nodes_of v 0) (start + count) (sym is ∙ none)
  where
    by : (xs : List ℕ) (i : ℕ) → slice_get xs i ≡ None → length xs ≤ i
    by [] i e = omega arith
    by (x ∷ xs) zero e = cc
    by (x ∷ xs) (suc i) e = omega (arith, by xs i e)

pub followed-marks : (l : Layout) (f : Funding) (old : List ℕ) (v : NodeLists) (node : Node) (count : ℕ)
    → IsFollowed l f old v node count → length (nodes_of v 0) ≤ length old + count → Marks l f old (nodes_of v 0) node
followed-marks l f old v node count is all = record {
  kept = λ x c. let r = place-in old x c in contains-at (nodes_of v 0) r.0 x (is.kept r.0 x r.1);
  marked = contains-at (nodes_of v 0) (length old) (node_place l node) is.marked;
  only = is.only;
  tight = λ from to edge c none. by from to edge (place-in (nodes_of v 0) from c) none;
}
  where
    by : (from to : ℕ) → LeadsToPlace l f (node_of l from) to
        → (place : ℕ) × (slice_get (nodes_of v 0) place ≡ Some from) → ¬ Contains (nodes_of v 0) to → Contains old from
    by from to edge (place, at) none = elim (cases_lt place (length old)) [
      | inl low ↦
          let here = slice_get-get_or old place 0 low in
          let same : get_or old place 0 ≡ from =
          some-injective (get_or old place 0) from (sym (is.kept place (get_or old place 0) here) ∙ at) in
          subst (Contains old) same (contains-at old place (get_or old place 0) here)
      | inr high ↦
          let within = slice_get_within (nodes_of v 0) place from at in
          let i_at : node_at v 0 (length old + (place - length old)) ≡ Some from =
          ap (slice_get (nodes_of v 0)) (omega arith) ∙ at in
          absurd (none (is.followed (place - length old) from to (omega arith) i_at edge))
    ]

-- a node that is listed already
pub marks-nothing : (l : Layout) (f : Funding) (old : List ℕ) (node : Node) → Contains old (node_place l node)
    → Marks l f old old node
marks-nothing l f old node c =
    record { kept = λ x d. d; marked = c; only = λ x d. inl d; tight = λ from to edge d none. d }

-- ---- the targets of a node

-- one of these edges leads from the node to the one of this place
abbrev pub IsTargetOf : Layout → Funding → List Edge → Node → ℕ → Type 0
IsTargetOf l f edges from place = (edge : Edge) × (to : Node) × Contains edges edge × (ends_of f edge ≡ Some (from, to))
    × (node_place l to ≡ place)

module _ (l : Layout) (f : Funding) (from : Node) where
  pub targets-none : (v : NodeLists) → Spreads v v (IsTargetOf l f [] from)
  targets-none v = spread-none v (IsTargetOf l f [] from) (λ x so. absurd (contains-nothing so.0 so.2))

  pub targets-more : (done : List Edge) (edge : Edge) (to : Node) (place : ℕ) (v w u : NodeLists)
      → ends_of f edge ≡ Some (from, to) → place ≡ node_place l to
      → Spreads v w (IsTargetOf l f done from) → Spreads w u (λ x. x ≡ place)
      → Spreads v u (IsTargetOf l f (done ++ edge ∷ []) from)
  targets-more done edge to place v w u ends at first second =
      spread-more v w u (IsTargetOf l f done from) (IsTargetOf l f (done ++ edge ∷ []) from) place first second
      (λ x so. (so.0, so.1, Contains-append_left done (edge ∷ []) so.0 so.2, so.3, so.4))
      (edge, to, Contains-append_right done (edge ∷ []) edge (contains-first edge []), ends, sym at)
      (λ x so. either x so (Contains-push_cases done edge so.0 so.2))
    where
      either : (x : ℕ) (so : IsTargetOf l f (done ++ edge ∷ []) from x) → Contains done so.0 ⊎ (edge ≡ so.0)
          → IsTargetOf l f done from x ⊎ (x ≡ place)
      either x so (inl c) = inl (so.0, so.1, c, so.3, so.4)
      either x so (inr same) =
          let both = some-injective (pair from so.1) (pair from to) (sym so.3 ∙ ap (ends_of f) (sym same) ∙ ends) in
          inr (sym so.4 ∙ ap (λ p. node_place l p.1) both ∙ sym at)

  pub targets-all : (done : List Edge) (v w : NodeLists) → HasEachOnce done (LeadsOutOf f from)
      → Spreads v w (IsTargetOf l f done from) → Spreads v w (LeadsToPlace l f from)
  targets-all done v w each spreads =
      spread-by v w (IsTargetOf l f done from) (LeadsToPlace l f from) spreads (λ x so. (so.1, (so.0, so.3), so.4))
      (λ x so. (so.1.0, so.0, each.all so.1.0 (so.0, so.1.1), so.1.1, so.2))

-- ---- what the tickets of a currency fund

module _ (f : Funding) (currency : ℕ) where
  pub funded-ends : (n : ℕ) (t : Ticket) (to : Node) → IsIssuedIn f currency n → ticket_at f n ≡ Some t
      → target_node t.target ≡ Some to → ends_of f (OfTicket n) ≡ Some (Currency currency, to)
  funded-ends n t to issued at funds = ends-ticket f n t to at funds ∙ ap (λ (c : ℕ). Some (pair (Currency c) to))
      (some-injective t.issuer currency (sym (issuer-of f n t at) ∙ issued))

  pub funded-none : (n : ℕ) (t : Ticket) → ticket_at f n ≡ Some t → target_node t.target ≡ None
      → ends_of f (OfTicket n) ≡ None
  funded-none n t at funds =
      ap (option_and_then (λ (u : Ticket). option_map (pair (Currency u.issuer)) (target_node u.target))) at
      ∙ ap (option_map (pair (Currency t.issuer))) funds

module _ (l : Layout) (f : Funding) (currency : ℕ) where
  pub funded-more : (done : List ℕ) (n : ℕ) (to : Node) (place : ℕ) (v w u : NodeLists)
      → ends_of f (OfTicket n) ≡ Some (Currency currency, to) → place ≡ node_place l to
      → Spreads v w (IsTargetOf l f (map OfTicket done) (Currency currency)) → Spreads w u (λ x. x ≡ place)
      → Spreads v u (IsTargetOf l f (map OfTicket (done ++ n ∷ [])) (Currency currency))
  funded-more done n to place v w u ends at first second =
      subst (λ (edges : List Edge). Spreads v u (IsTargetOf l f edges (Currency currency)))
      (sym (map-append OfTicket done (n ∷ [])))
      (targets-more l f (Currency currency) (map OfTicket done) (OfTicket n) to place v w u ends at first second)

  -- a ticket that funds nothing
  pub funded-skip : (done : List ℕ) (n : ℕ) (v w : NodeLists) → ends_of f (OfTicket n) ≡ None
      → Spreads v w (IsTargetOf l f (map OfTicket done) (Currency currency))
      → Spreads v w (IsTargetOf l f (map OfTicket (done ++ n ∷ [])) (Currency currency))
  funded-skip done n v w none spreads =
      subst (λ (edges : List Edge). Spreads v w (IsTargetOf l f edges (Currency currency)))
      (sym (map-append OfTicket done (n ∷ [])))
      (spread-by v w (IsTargetOf l f (map OfTicket done) (Currency currency))
      (IsTargetOf l f (map OfTicket done ++ OfTicket n ∷ []) (Currency currency)) spreads
      (λ x so. (so.0, so.1, Contains-append_left (map OfTicket done) (OfTicket n ∷ []) so.0 so.2, so.3, so.4))
      (λ x so. back x so (Contains-push_cases (map OfTicket done) (OfTicket n) so.0 so.2)))
    where
      back : (x : ℕ) (so : IsTargetOf l f (map OfTicket done ++ OfTicket n ∷ []) (Currency currency) x)
          → Contains (map OfTicket done) so.0 ⊎ (OfTicket n ≡ so.0)
          → IsTargetOf l f (map OfTicket done) (Currency currency) x
      back x so (inl c) = (so.0, so.1, c, so.3, so.4)
      back x so (inr same) = let wrong : None ≡ Some (pair (Currency currency) so.1) = sym none ∙ ap (ends_of f) same
          ∙ so.3 in cc

  pub funded-all : (done : List ℕ) (v w : NodeLists) → HasEachOnce done (IsIssuedIn f currency)
      → Spreads v w (IsTargetOf l f (map OfTicket done) (Currency currency))
      → Spreads v w (LeadsToPlace l f (Currency currency))
  funded-all done v w each spreads =
      spread-by v w (IsTargetOf l f (map OfTicket done) (Currency currency))
      (LeadsToPlace l f (Currency currency)) spreads
      (λ x so. (so.1, (so.0, so.3), so.4)) (λ x so. (so.1.0, so.0, there so.1.0 so.0 so.1.1, so.1.1, so.2))
    where
      number : {a b : ℕ} → Currency a ≡ Currency b → b ≡ a
      number e = cc

      there : (edge : Edge) (to : Node) → ends_of f edge ≡ Some (Currency currency, to)
          → Contains (map OfTicket done) edge
      there (OfTicket n) to ends =
          let (t, at, from, funds) = ticket-ends f n (Currency currency) to ends in
          mapped-contains OfTicket done n (each.all n (issuer-of f n t at ∙ ap Some (number from)))
      there (OfLender t) to ends = let r = lender-ends f t (Currency currency) to ends in
          let wrong : Currency currency ≡ Thread t = r.2 in cc
      there (OfMutex m) to ends = let r = mutex-ends f m (Currency currency) to ends in
          let wrong : Currency currency ≡ Mutex m = r.2 in cc
