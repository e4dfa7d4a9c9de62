-- The places of nodes in the lists.
use Rattle.lot_active.proofs.Common.{All, Bool, Contains, Contains-append_left, Contains-append_right, Contains-push_cases, EdgePlaces, EntersAt, HasEachOnce, IfNone, In, IsConsistent, IsFree, IsListed, List, Net, NodeLists, None, Option, Relists, Some, ap, append_assoc, arith, beq, cases_eq, cases_lt, contains-at, contains-nothing, false, get_or-set_other, get_or-set_same, get_or_past, inl, inr, is_some, left-before, length, length-append, node_at, nodes_of, not, place-in, refl, remove, slice_get, slice_set, still-left, subst, suc, sym, true, with_pushed, with_removed, zero, ℕ, [], ◌++◌, ◌+◌, ◌<◌, ◌∙◌, ◌∷◌, ◌≡◌, ◌⊎◌}

-- ---- membership

pub in-or-not : (xs : List ℕ) (n : ℕ) → Contains xs n ⊎ ¬ Contains xs n
in-or-not [] n = inr (contains-nothing n)
in-or-not (x ∷ xs) n = by (cases_eq x n) (in-or-not xs n)
  where
    by : (x ≡ n) ⊎ ¬ (x ≡ n) → Contains xs n ⊎ ¬ Contains xs n → Contains (x ∷ xs) n ⊎ ¬ Contains (x ∷ xs) n
    by (inl same) rest = inl (zero, omega arith, same)
    by (inr off) (inl (k, low, is)) = inl (suc k, omega (arith, low), is)
    by (inr off) (inr none) = inr no
      where
        no : ¬ Contains (x ∷ xs) n
        no (zero, low, is) = off is
        no (suc k, low, is) = none (k, omega (arith, low), is)

-- a node is in one list at most
pub one-list : (v : NodeLists) → IsConsistent v → (list other n : ℕ) → In v list n → In v other n → list ≡ other
one-list v consistent list other n a b =
    let p = place-in (nodes_of v list) n a in
    let q = place-in (nodes_of v other) n b in
    (consistent.disjoint n list p.0 other q.0 p.1 q.1).0

-- there are three lists
abbrev pub Place : NodeLists → ℕ → Type 0
Place v n = In v 0 n ⊎ (In v 1 n ⊎ In v 2 n)

pub listed-place : (v : NodeLists) (n : ℕ) → length v.lists ≡ 3 → IsListed v n → Place v n
listed-place v n three listed = by listed.list listed.contains
  where
    by : (list : ℕ) → In v list n → Place v n
    by zero there = inl there
    by (suc zero) there = inr (inl there)
    by (suc (suc zero)) there = inr (inr there)
    by (suc (suc (suc k))) there = absurd (contains-nothing n (subst (λ (xs : List ℕ). Contains xs n)
        (get_or_past v.lists (suc (suc (suc k))) [] (omega (arith, three))) there))

pub free-or-listed : (v : NodeLists) (n : ℕ) → length v.lists ≡ 3 → IsFree v n ⊎ IsListed v n
free-or-listed v n three = by (in-or-not (nodes_of v 0) n) (in-or-not (nodes_of v 1) n) (in-or-not (nodes_of v 2) n)
  where
    by : In v 0 n ⊎ ¬ In v 0 n → In v 1 n ⊎ ¬ In v 1 n → In v 2 n ⊎ ¬ In v 2 n → IsFree v n ⊎ IsListed v n
    by (inl a) b c = inr (record { list = 0; contains = a })
    by (inr a) (inl b) c = inr (record { list = 1; contains = b })
    by (inr a) (inr b) (inl c) = inr (record { list = 2; contains = c })
    by (inr a) (inr b) (inr c) =
        inl (λ list there. none (listed-place v n three (record { list = list; contains = there })))
      where
        none : ¬ Place v n
        none (inl x) = a x
        none (inr (inl x)) = b x
        none (inr (inr x)) = c x

-- ---- a node is put into a list

pub push-relists : (v w : NodeLists) (n to : ℕ) → to < length v.lists → IsFree v n → w ≡ with_pushed v to n
    → Relists v w n to
push-relists v w n to low free is = record {
  here = subst (λ (xs : List ℕ). Contains xs n) (sym nodes-here)
      (Contains-append_right (nodes_of v to) (n ∷ []) n (zero, omega arith, refl));
  only = only;
  kept = kept;
  back = back;
  same = λ list off none. nodes-other list off;
  grown = λ none. ap (length {A = ℕ}) nodes-here ∙ length-append (nodes_of v to) (n ∷ []);
}
  where
    nodes-here : nodes_of w to ≡ nodes_of v to ++ n ∷ []
    nodes-here = ap (λ (x : NodeLists). nodes_of x to) is ∙ get_or-set_same v.lists to (nodes_of v to ++ n ∷ []) [] low

    nodes-other : (k : ℕ) → ¬ (k ≡ to) → nodes_of w k ≡ nodes_of v k
    nodes-other k off = ap (λ (x : NodeLists). nodes_of x k) is
        ∙ get_or-set_other v.lists to k (nodes_of v to ++ n ∷ []) [] off

    only : (list : ℕ) → In w list n → list ≡ to
    only list there = elim (cases_eq list to) [
      | inl same ↦ same
      | inr off ↦ absurd (free list (subst (λ (xs : List ℕ). Contains xs n) (nodes-other list off) there))
    ]

    kept : (list m : ℕ) → ¬ (m ≡ n) → In v list m → In w list m
    kept list m apart there = elim (cases_eq list to) [
      | inl same ↦ subst (λ (xs : List ℕ). Contains xs m) (sym (ap (nodes_of w) same ∙ nodes-here))
          (Contains-append_left (nodes_of v to) (n ∷ []) m (subst (λ k. In v k m) same there))
      | inr off ↦ subst (λ (xs : List ℕ). Contains xs m) (sym (nodes-other list off)) there
    ]

    back : (list m : ℕ) → ¬ (m ≡ n) → In w list m → In v list m
    back list m apart there = elim (cases_eq list to) [
      | inl same ↦ subst (λ k. In v k m) (sym same) (by (Contains-push_cases (nodes_of v to) n m
          (subst (λ (xs : List ℕ). Contains xs m) (ap (nodes_of w) same ∙ nodes-here) there)))
      | inr off ↦ subst (λ (xs : List ℕ). Contains xs m) (nodes-other list off) there
    ]
      where
        by : Contains (nodes_of v to) m ⊎ (n ≡ m) → In v to m
        by (inl before) = before
        by (inr same) = absurd (apart (sym same))

-- the same, if it was in another before
pub move-relists : (v u w : NodeLists) (n to : ℕ) → to < length v.lists → length u.lists ≡ length v.lists
    → IsConsistent v → IsListed v n → ((list place : ℕ) → node_at v list place ≡ Some n → u ≡ with_removed v list place)
    → IsFree u n → w ≡ with_pushed u to n → Relists v w n to
move-relists v u w n to low lists consistent listed is free pushed = record {
  here = second.here;
  only = second.only;
  kept = λ list m apart there. second.kept list m apart (after list m apart there);
  back = λ list m apart there. before list m (second.back list m apart there);
  same = λ list off none. second.same list off (λ there. free list there)
      ∙ nodes-other list (λ same. none (subst (λ k. In v k n) (sym same) listed.contains));
  grown = λ none. second.grown (free to) ∙ ap (λ (xs : List ℕ). length xs + 1)
      (nodes-other to (λ same. none (subst (λ k. In v k n) (sym same) listed.contains)));
}
  where
    second : Relists u w n to
    second = push-relists u w n to (omega (arith, low, lists)) free pushed

    from : (p : ℕ) × (slice_get (nodes_of v listed.list) p ≡ Some n)
    from = place-in (nodes_of v listed.list) n listed.contains

    u-is : u ≡ with_removed v listed.list from.0
    u-is = is listed.list from.0 from.1

    list-low : listed.list < length v.lists
    list-low = elim (cases_lt listed.list (length v.lists)) [
      | inl below ↦ below
      | inr high ↦ absurd (contains-nothing n
          (subst (λ (xs : List ℕ). Contains xs n) (get_or_past v.lists listed.list [] high) listed.contains))
    ]

    nodes-here : nodes_of u listed.list ≡ remove (nodes_of v listed.list) from.0
    nodes-here = ap (λ (x : NodeLists). nodes_of x listed.list) u-is
        ∙ get_or-set_same v.lists listed.list (remove (nodes_of v listed.list) from.0) [] list-low

    nodes-other : (k : ℕ) → ¬ (k ≡ listed.list) → nodes_of u k ≡ nodes_of v k
    nodes-other k off = ap (λ (x : NodeLists). nodes_of x k) u-is
        ∙ get_or-set_other v.lists listed.list k (remove (nodes_of v listed.list) from.0) [] off

    before : (k m : ℕ) → In u k m → In v k m
    before k m there = elim (cases_eq k listed.list) [
      | inl same ↦ subst (λ j. In v j m) (sym same) (left-before (nodes_of v listed.list) from.0 m
          (subst (λ (xs : List ℕ). Contains xs m) (ap (nodes_of u) same ∙ nodes-here) there))
      | inr off ↦ subst (λ (xs : List ℕ). Contains xs m) (nodes-other k off) there
    ]

    after : (k m : ℕ) → ¬ (m ≡ n) → In v k m → In u k m
    after k m apart there = elim (cases_eq k listed.list) [
      | inl same ↦ subst (λ (xs : List ℕ). Contains xs m) (sym (ap (nodes_of u) same ∙ nodes-here))
          (still-left (nodes_of v listed.list) from.0 n m from.1 apart (subst (λ j. In v j m) same there))
      | inr off ↦ subst (λ (xs : List ℕ). Contains xs m) (sym (nodes-other k off)) there
    ]

-- ---- a list that may name one

pub found-none : (o : Option ℕ) (test : Bool) (P : Type 0) → is_some o ≡ not test → test ≡ true → IfNone o P → P
found-none None test P is e h = h
found-none (Some x) true P is e h = cc
found-none (Some x) false P is e h = cc

-- ---- walks over what comes once each

module _ (g : Net) (node : ℕ) (done xs : List ℕ) (each : HasEachOnce (done ++ xs) (EntersAt g node)) where
  module _ (e : ℕ) (rest : List ℕ) (is : xs ≡ e ∷ rest) where
    both : HasEachOnce (done ++ e ∷ rest) (EntersAt g node)
    both = subst (λ (ys : List ℕ). HasEachOnce (done ++ ys) (EntersAt g node)) is each

    pub walk-leads : EntersAt g node e
    walk-leads = both.each e (Contains-append_right done (e ∷ rest) e (zero, omega arith, refl))

    pub walk-to : (a : EdgePlaces) → g.places e ≡ Some a → a.to ≡ node
    walk-to a at = let leads = walk-leads in let same : Some a ≡ Some leads.0 = sym at ∙ leads.1 in
        let equal : a ≡ leads.0 = cc in ap (λ (y : EdgePlaces). y.to) equal ∙ leads.2

    pub walk-more : HasEachOnce ((done ++ e ∷ []) ++ rest) (EntersAt g node)
    walk-more = subst (λ (ys : List ℕ). HasEachOnce ys (EntersAt g node)) (sym (append_assoc done (e ∷ []) rest)) both

    pub walk-new : ¬ Contains done e
    walk-new there =
        let p = place-in done e there in
        let same = both.once e p.0 (length done) (front done p.0 p.1) (following done) in
        absurd (omega (arith, within done p.0 p.1, same))
      where
        front : (ys : List ℕ) (k : ℕ) → slice_get ys k ≡ Some e → slice_get (ys ++ e ∷ rest) k ≡ Some e
        front [] k h = cc
        front (y ∷ ys) zero h = h
        front (y ∷ ys) (suc k) h = front ys k h

        following : (ys : List ℕ) → slice_get (ys ++ e ∷ rest) (length ys) ≡ Some e
        following [] = refl
        following (y ∷ ys) = following ys

        within : (ys : List ℕ) (k : ℕ) → slice_get ys k ≡ Some e → k < length ys
        within [] k h = cc
        within (y ∷ ys) zero h = omega arith
        within (y ∷ ys) (suc k) h = let low = within ys k h in omega (arith, low)

  pub walk-all : xs ≡ [] → (e : ℕ) (a : EdgePlaces) → g.places e ≡ Some a → a.to ≡ node → Contains done e
  walk-all none e a at to = subst (λ (ys : List ℕ). Contains ys e) (append_nil done)
      (subst (λ (ys : List ℕ). Contains (done ++ ys) e) none (each.all e (a, at, to)))
    where
      append_nil : (ys : List ℕ) → ys ++ [] ≡ ys
      append_nil [] = refl
      append_nil (y ∷ ys) = ap (λ (zs : List ℕ). y ∷ zs) (append_nil ys)

-- ---- bits

pub same-bits : (a b : Bool) → not (beq a b) ≡ false → a ≡ b
same-bits true true e = refl
same-bits false false e = refl
same-bits true false e = cc
same-bits false true e = cc

pub other-bits : (a b : Bool) → not (beq a b) ≡ true → ¬ (a ≡ b)
other-bits true true e same = cc
other-bits false false e same = cc
other-bits true false e same = cc
other-bits false true e same = cc

-- ---- one place of a list

pub set-same : {A : Type 0} (xs : List A) (i : ℕ) (x : A) → i < length xs → slice_get (slice_set xs i x) i ≡ Some x
set-same [] i x low = absurd (omega (arith, low))
set-same (y ∷ ys) zero x low = refl
set-same (y ∷ ys) (suc i) x low = set-same ys i x (omega (arith, low))

pub set-other : {A : Type 0} (xs : List A) (i : ℕ) (x : A) (k : ℕ) → ¬ (k ≡ i)
    → slice_get (slice_set xs i x) k ≡ slice_get xs k
set-other [] i x k off = refl
set-other (y ∷ ys) zero x zero off = absurd (off refl)
set-other (y ∷ ys) zero x (suc k) off = refl
set-other (y ∷ ys) (suc i) x zero off = refl
set-other (y ∷ ys) (suc i) x (suc k) off = set-other ys i x k (λ same. off (ap suc same))

-- ---- the first node of a list, taken out

pub listed-first : (v : NodeLists) (list n : ℕ) → Some n ≡ node_at v list 0 → IsListed v n
listed-first v list n front = record { list = list; contains = contains-at (nodes_of v list) 0 n (sym front) }

pub first-low : (v : NodeLists) (list n : ℕ) → IsConsistent v → Some n ≡ node_at v list 0 → n < v.nodes
first-low v list n consistent front = by (nodes_of v list) (sym front) (consistent.in_range list)
  where
    by : (xs : List ℕ) → slice_get xs 0 ≡ Some n → All (λ node. node < v.nodes) xs → n < v.nodes
    by [] e all = cc
    by (x ∷ xs) e all = let here = all 0 0 (omega arith) in let is : Some x ≡ Some n = e in let same : x ≡ n = cc in
        omega (arith, here, same)

pub if-none : (o : Option ℕ) (P : Type 0) → P → IfNone o P
if-none None P p = p
if-none (Some x) P p = tt

pub none-first : (xs : List ℕ) → None ≡ slice_get xs 0 → xs ≡ []
none-first [] e = refl
none-first (x ∷ xs) e = cc

module _ (v w : NodeLists) (list n : ℕ) (low : list < length v.lists) (front : Some n ≡ node_at v list 0)
    (removed : (from place : ℕ) → node_at v from place ≡ Some n → w ≡ with_removed v from place) where
  is : w ≡ with_removed v list 0
  is = removed list 0 (sym front)

  pub taken-shorter : length (nodes_of w list) < length (nodes_of v list)
  taken-shorter =
      let here = ap (λ (x : NodeLists). nodes_of x list) is
      ∙ get_or-set_same v.lists list (remove (nodes_of v list) 0) [] low in
      let shorter = by (nodes_of v list) (sym front) in
      omega (arith, shorter, ap (length {A = ℕ}) here)
    where
      by : (xs : List ℕ) → slice_get xs 0 ≡ Some n → length (remove xs 0) < length xs
      by [] e = cc
      by (x ∷ xs) e = omega arith

  pub taken-others : (other : ℕ) → ¬ (other ≡ list) → nodes_of w other ≡ nodes_of v other
  taken-others other off = ap (λ (x : NodeLists). nodes_of x other) is
      ∙ get_or-set_other v.lists list other (remove (nodes_of v list) 0) [] off
