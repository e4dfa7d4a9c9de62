-- The elements of lists, and the list of the stale nodes after a push, a removal and a move.
use Rattle.lot_value.proofs.Common.{Contains, Contains-append_left, Contains-append_right, Contains-push_cases, HasEachOnce, IsReordered, IsStaleList, List, NodeLists, Some, ap, append-nil, append_assoc, arith, cases_eq, contains-at, get_or-set_same, get_or_from_slice_get, inl, inr, left-before, length, node_at, nodes_of, refl, remove, slice_get, slice_get_within, still-left, subst, suc, sum_by, sum_by-remove, sum_by_push, sym, with_pushed, with_removed, zero, ℕ, [], ◌++◌, ◌+◌, ◌<◌, ◌∙◌, ◌∷◌, ◌≡◌, ◌⊎◌}

-- ---- what a list contains

pub contains-first : {A : Type 0} (x : A) (xs : List A) → Contains (x ∷ xs) x
contains-first x xs = (zero, omega arith, refl)

pub contains-cases : {A : Type 0} (x : A) (xs : List A) (y : A) → Contains (x ∷ xs) y → (x ≡ y) ⊎ Contains xs y
contains-cases x xs y (zero, low, is) = inl is
contains-cases x xs y (suc i, low, is) = inr (i, omega (arith, low), is)

-- a list that goes on where another one ends
module _ {A : Type 0} (IsSo : A → Type 0) (done : List A) where
  pub each-next : (left rest : List A) (x : A) → left ≡ x ∷ rest → HasEachOnce (done ++ left) IsSo
      → HasEachOnce ((done ++ x ∷ []) ++ rest) IsSo
  each-next left rest x is each = subst (λ (xs : List A). HasEachOnce xs IsSo) (sym (append_assoc done (x ∷ []) rest))
      (subst (λ (xs : List A). HasEachOnce (done ++ xs) IsSo) is each)

  pub each-here : (left rest : List A) (x : A) → left ≡ x ∷ rest → HasEachOnce (done ++ left) IsSo → IsSo x
  each-here left rest x is each = each.each x (subst (λ (xs : List A). Contains (done ++ xs) x) (sym is)
      (Contains-append_right done (x ∷ rest) x (contains-first x rest)))

  pub each-done : (left : List A) → left ≡ [] → HasEachOnce (done ++ left) IsSo → HasEachOnce done IsSo
  each-done left is each = subst (λ (xs : List A). HasEachOnce xs IsSo) (append-nil done)
      (subst (λ (xs : List A). HasEachOnce (done ++ xs) IsSo) is each)

pub last-pushed : {A : Type 0} (xs : List A) (x : A) → slice_get (xs ++ x ∷ []) (length xs) ≡ Some x
last-pushed [] x = refl
last-pushed (y ∷ ys) x = last-pushed ys x

-- ---- the one list

pub pushed-is : (v w : NodeLists) (x : ℕ) → length v.lists ≡ 1 → w ≡ with_pushed v 0 x
    → nodes_of w 0 ≡ nodes_of v 0 ++ x ∷ []
pushed-is v w x one is = ap (λ (u : NodeLists). nodes_of u 0) is
    ∙ get_or-set_same v.lists 0 (nodes_of v 0 ++ x ∷ []) [] (omega (arith, one))

pub removed-is : (v w : NodeLists) (place : ℕ) → length v.lists ≡ 1 → w ≡ with_removed v 0 place
    → nodes_of w 0 ≡ remove (nodes_of v 0) place
removed-is v w place one is = ap (λ (u : NodeLists). nodes_of u 0) is
    ∙ get_or-set_same v.lists 0 (remove (nodes_of v 0) place) [] (omega (arith, one))

pub moved-is : (v w : NodeLists) (place x : ℕ) → length v.lists ≡ 1 → length (with_removed v 0 place).lists ≡ 1
    → w ≡ with_pushed (with_removed v 0 place) 0 x → nodes_of w 0 ≡ remove (nodes_of v 0) place ++ x ∷ []
moved-is v w place x one one' is = pushed-is (with_removed v 0 place) w x one' is
    ∙ ap (λ (xs : List ℕ). xs ++ x ∷ []) (removed-is v (with_removed v 0 place) place one refl)

-- what one removal does to a sum
pub sum-taken : (f : ℕ → ℕ) (xs : List ℕ) (place x : ℕ) → slice_get xs place ≡ Some x
    → sum_by f (remove xs place) + f x ≡ sum_by f xs
sum-taken f xs place x at =
    ap (λ y. sum_by f (remove xs place) + f y) (sym (get_or_from_slice_get xs place x 0 at))
    ∙ sum_by-remove f xs place 0 (slice_get_within xs place x at)

-- a node that is moved to the back
pub reordered-move : (xs : List ℕ) (place x : ℕ) → slice_get xs place ≡ Some x
    → IsReordered xs (remove xs place ++ x ∷ [])
reordered-move xs place x at = record {
  each = λ y c. before y (Contains-push_cases (remove xs place) x y c);
  all = λ y c. after y (cases_eq y x) c;
  sums = λ f. sum_by_push f (remove xs place) x ∙ sum-taken f xs place x at;
}
  where
    before : (y : ℕ) → Contains (remove xs place) y ⊎ (x ≡ y) → Contains xs y
    before y (inl c) = left-before xs place y c
    before y (inr same) = subst (Contains xs) same (contains-at xs place x at)

    after : (y : ℕ) → (y ≡ x) ⊎ (¬ (y ≡ x)) → Contains xs y → Contains (remove xs place ++ x ∷ []) y
    after y (inl same) c = Contains-append_right (remove xs place) (x ∷ []) y (zero, omega arith, sym same)
    after y (inr off) c = Contains-append_left (remove xs place) (x ∷ []) y (still-left xs place x y at off c)

pub reordered-same : {A : Type 0} (xs : List A) → IsReordered xs xs
reordered-same xs = record { each = λ x c. c; all = λ x c. c; sums = λ f. refl }

pub reordered-then : {A : Type 0} (xs ys zs : List A) → IsReordered xs ys → IsReordered ys zs → IsReordered xs zs
reordered-then xs ys zs first second = record {
  each = λ x c. first.each x (second.each x c);
  all = λ x c. second.all x (first.all x c);
  sums = λ f. second.sums f ∙ first.sums f;
}

-- a node of the list is one of those that there are
pub listed-low : (v : NodeLists) (count place node : ℕ) → IsStaleList v count → node_at v 0 place ≡ Some node
    → node < count
listed-low v count place node is at = let c = contains-at (nodes_of v 0) place node at in
    omega (arith, is.consistent.in_range 0 c.0 node c.1, c.2, is.nodes)

pub list-within : (v : NodeLists) (count : ℕ) → IsStaleList v count → (place : ℕ) → Contains (nodes_of v 0) place
    → place < count
list-within v count is place c = omega (arith, is.consistent.in_range 0 c.0 place c.1, c.2, is.nodes)
