-- Elements by index after one more element in a free place, or at the end, and the gaps afterwards.
use Rattle.lot_machine.proofs.Common.{Bool, Contains, HasEachOnce, IsGap, List, None, Option, Some, ap, arith, at_number, cond, count_by, drop, inl, inr, is_none_free, is_some, length, length-append, length-set, map, map-append, map-set, next_place, placed, refl, slice_get, slice_set, suc, sum_by-cons, sym, true, zero, ℕ, [], ◌&&◌, ◌++◌, ◌+◌, ◌-◌, ◌∙◌, ◌∷◌, ◌≡◌, ◌≤◌, ◌⊎◌}
use Rattle.lot_machine.proofs.Tickets.{at_number-suc, some-injective}
use Rattle.lot_machine.proofs.Changes.{place-set, place-set_other, place-set_same, place-push}
use Rattle.lot_machine.proofs.EachOnce.{contains-nothing, contains-at, place-in}

-- ---- what stands at a place

-- a place has what it had, or the new one
pub place-placed : {A : Type 0} (xs : List A) (free : List ℕ) (x : A) (k : ℕ)
    → (slice_get (placed xs free x) k ≡ slice_get xs k) ⊎ (slice_get (placed xs free x) k ≡ Some x)
place-placed xs [] x k = from (place-push xs x k)
  where
    from : (slice_get (xs ++ x ∷ []) k ≡ slice_get xs k)
        ⊎ ((slice_get xs k ≡ None) × (slice_get (xs ++ x ∷ []) k ≡ Some x))
        → (slice_get (xs ++ x ∷ []) k ≡ slice_get xs k) ⊎ (slice_get (xs ++ x ∷ []) k ≡ Some x)
    from (inl same) = inl same
    from (inr (past, is)) = inr is
place-placed xs (i ∷ free) x k = from (place-set xs i x k)
  where
    from : (slice_get (slice_set xs i x) k ≡ slice_get xs k) ⊎ ((k ≡ i) × (slice_get (slice_set xs i x) k ≡ Some x))
        → (slice_get (slice_set xs i x) k ≡ slice_get xs k) ⊎ (slice_get (slice_set xs i x) k ≡ Some x)
    from (inl same) = inl same
    from (inr (at, is)) = inr is

-- the same, of numbers
pub number-placed : {A : Type 0} (xs : List A) (free : List ℕ) (x : A) (k : ℕ)
    → (at_number (placed xs free x) k ≡ at_number xs k) ⊎ (at_number (placed xs free x) k ≡ Some x)
number-placed xs free x zero = inl refl
number-placed xs free x (suc k) = from (place-placed xs free x k)
  where
    from : (slice_get (placed xs free x) k ≡ slice_get xs k) ⊎ (slice_get (placed xs free x) k ≡ Some x)
        → (at_number (placed xs free x) (suc k) ≡ at_number xs (suc k))
        ⊎ (at_number (placed xs free x) (suc k) ≡ Some x)
    from (inl same) = inl (at_number-suc (placed xs free x) k ∙ same ∙ sym (at_number-suc xs k))
    from (inr is) = inr (at_number-suc (placed xs free x) k ∙ is)

-- what is not in the first free place stays
pub place-stays : {A : Type 0} (xs : List A) (free : List ℕ) (x y : A) (k : ℕ) → ¬ (slice_get free 0 ≡ Some k)
    → slice_get xs k ≡ Some y → slice_get (placed xs free x) k ≡ Some y
place-stays xs [] x y k other is = from (place-push xs x k)
  where
    from : (slice_get (xs ++ x ∷ []) k ≡ slice_get xs k)
        ⊎ ((slice_get xs k ≡ None) × (slice_get (xs ++ x ∷ []) k ≡ Some x)) → slice_get (xs ++ x ∷ []) k ≡ Some y
    from (inl same) = same ∙ is
    from (inr (past, _)) = let never : None ≡ Some y = sym past ∙ is in cc
place-stays xs (i ∷ free) x y k other is = place-set_other xs i x k (λ at. other (ap Some (sym at))) ∙ is

pub number-stays : {A : Type 0} (xs : List A) (free : List ℕ) (x y : A) (n : ℕ) → ¬ (slice_get free 0 ≡ Some (n - 1))
    → at_number xs n ≡ Some y → at_number (placed xs free x) n ≡ Some y
number-stays xs free x y zero other is = cc
number-stays xs free x y (suc k) other is =
    let place : suc k - 1 ≡ k = omega arith in
    at_number-suc (placed xs free x) k
    ∙ place-stays xs free x y k (λ first. other (first ∙ ap Some (sym place))) (sym (at_number-suc xs k) ∙ is)

-- the place of what is added at the end
pub push-last : {A : Type 0} (xs : List A) (x : A) (k : ℕ) → slice_get xs k ≡ None → slice_get (xs ++ x ∷ []) k ≡ Some x
    → k ≡ length xs
push-last [] x zero past is = refl
push-last [] x (suc k) past is = cc
push-last (y ∷ ys) x zero past is = cc
push-last (y ∷ ys) x (suc k) past is = ap suc (push-last ys x k past is)

-- A place has what it had; or it is the next place, and has the new element.
pub place-next : {A : Type 0} (xs : List A) (free : List ℕ) (x : A) (k : ℕ)
    → (slice_get (placed xs free x) k ≡ slice_get xs k)
    ⊎ ((k ≡ next_place xs free) × (slice_get (placed xs free x) k ≡ Some x))
place-next xs [] x k = from (place-push xs x k)
  where
    from : (slice_get (xs ++ x ∷ []) k ≡ slice_get xs k)
        ⊎ ((slice_get xs k ≡ None) × (slice_get (xs ++ x ∷ []) k ≡ Some x))
        → (slice_get (xs ++ x ∷ []) k ≡ slice_get xs k) ⊎ ((k ≡ length xs) × (slice_get (xs ++ x ∷ []) k ≡ Some x))
    from (inl same) = inl same
    from (inr (past, is)) = inr (push-last xs x k past is, is)
place-next xs (i ∷ free) x k = place-set xs i x k

-- A number has what it had; or it is the next number, and has the new element. Then it had none, or it is the first free place's.
pub number-next : {A : Type 0} (xs : List A) (free : List ℕ) (x : A) (k : ℕ)
    → (at_number (placed xs free x) k ≡ at_number xs k)
    ⊎ ((k ≡ next_place xs free + 1) × (at_number (placed xs free x) k ≡ Some x)
    × ((at_number xs k ≡ None) ⊎ (slice_get free 0 ≡ Some (k - 1))))
number-next xs free x zero = inl refl
number-next xs [] x (suc k) = from (place-push xs x k)
  where
    from : (slice_get (xs ++ x ∷ []) k ≡ slice_get xs k)
        ⊎ ((slice_get xs k ≡ None) × (slice_get (xs ++ x ∷ []) k ≡ Some x))
        → (at_number (xs ++ x ∷ []) (suc k) ≡ at_number xs (suc k))
        ⊎ ((suc k ≡ length xs + 1) × (at_number (xs ++ x ∷ []) (suc k) ≡ Some x)
        × ((at_number xs (suc k) ≡ None) ⊎ (slice_get {X = ℕ} [] 0 ≡ Some (suc k - 1))))
    from (inl same) = inl (at_number-suc (xs ++ x ∷ []) k ∙ same ∙ sym (at_number-suc xs k))
    from (inr (past, is)) = let last : k ≡ length xs = push-last xs x k past is in
        inr (omega (arith, last), at_number-suc (xs ++ x ∷ []) k ∙ is, inl (at_number-suc xs k ∙ past))
number-next xs (i ∷ free) x (suc k) = from (place-set xs i x k)
  where
    from : (slice_get (slice_set xs i x) k ≡ slice_get xs k) ⊎ ((k ≡ i) × (slice_get (slice_set xs i x) k ≡ Some x))
        → (at_number (slice_set xs i x) (suc k) ≡ at_number xs (suc k))
        ⊎ ((suc k ≡ i + 1) × (at_number (slice_set xs i x) (suc k) ≡ Some x)
        × ((at_number xs (suc k) ≡ None) ⊎ (slice_get (i ∷ free) 0 ≡ Some (suc k - 1))))
    from (inl same) = inl (at_number-suc (slice_set xs i x) k ∙ same ∙ sym (at_number-suc xs k))
    from (inr (at, is)) =
        let place : i ≡ suc k - 1 = omega (arith, at) in
        inr (omega (arith, at), at_number-suc (slice_set xs i x) k ∙ is, inr (ap Some place))

-- as many elements as before, or one more if no place is free
pub length-placed : {A : Type 0} (xs : List A) (free : List ℕ) (x : A)
    → ((free ≡ []) × (length (placed xs free x) ≡ length xs + 1)) ⊎ (length (placed xs free x) ≡ length xs)
length-placed xs [] x = inl (refl, omega (arith, length-append xs (x ∷ [])))
length-placed xs (i ∷ free) x = inr (length-set xs i x)

-- a function of each element
pub map-placed : {A B : Type 0} (f : A → B) (xs : List A) (free : List ℕ) (x : A)
    → map f (placed xs free x) ≡ placed (map f xs) free (f x)
map-placed f xs [] x = map-append f xs (x ∷ [])
map-placed f xs (i ∷ free) x = map-set f xs i x

-- ---- gaps

nothing-given : {A : Type 0} (x : A) → ¬ (Some (Some x) ≡ Some None)
nothing-given x e = cc

-- what stands at a gap isn't one that was put there
module _ {A : Type 0} (xs : List (Option A)) where
  -- after one more element
  pub gaps-placed : (free : List ℕ) (x : A) → HasEachOnce free (IsGap xs)
      → HasEachOnce (drop 1 free) (IsGap (placed xs free (Some x)))
  gaps-placed [] x are = record {
    each = λ k in_free. absurd (contains-nothing k in_free);
    all = λ k gap. from k gap (place-push xs (Some x) k);
    once = are.once;
  }
    where
      from : (k : ℕ) → IsGap (xs ++ Some x ∷ []) k → (slice_get (xs ++ Some x ∷ []) k ≡ slice_get xs k)
          ⊎ ((slice_get xs k ≡ None) × (slice_get (xs ++ Some x ∷ []) k ≡ Some (Some x))) → Contains [] k
      from k gap (inl same) = are.all k (sym same ∙ gap)
      from k gap (inr (past, is)) = absurd (nothing-given x (sym is ∙ gap))
  gaps-placed (i ∷ free) x are = record {
    each = λ k in_free. still k in_free (place-in free k in_free);
    all = λ k gap. from k gap (place-set xs i (Some x) k);
    once = λ k place other e f. let same : suc place ≡ suc other = are.once k (suc place) (suc other) e f in
        omega (arith, same);
  }
    where
      still : (k : ℕ) → Contains free k → (place : ℕ) × (slice_get free place ≡ Some k)
          → IsGap (slice_set xs i (Some x)) k
      still k in_free (place, at) =
          place-set_other xs i (Some x) k (λ same. let first : suc place ≡ zero =
          are.once k (suc place) 0 at (ap Some (sym same)) in absurd (omega (arith, first)))
          ∙ are.each k (contains-at (i ∷ free) (suc place) k at)

      later : (k : ℕ) → ¬ (k ≡ i) → (place : ℕ) × (slice_get (i ∷ free) place ≡ Some k) → Contains free k
      later k other (zero, at) = absurd (other (sym (some-injective i k at)))
      later k other (suc place, at) = contains-at free place k at

      was-gap : IsGap xs i
      was-gap = are.each i (contains-at (i ∷ free) 0 i refl)

      from : (k : ℕ) → IsGap (slice_set xs i (Some x)) k → (slice_get (slice_set xs i (Some x)) k ≡ slice_get xs k)
          ⊎ ((k ≡ i) × (slice_get (slice_set xs i (Some x)) k ≡ Some (Some x))) → Contains free k
      from k gap (inl same) =
          later k (λ here. nothing-given x (sym (ap (slice_get (slice_set xs i (Some x))) here
          ∙ place-set_same xs i (Some x) None was-gap) ∙ gap)) (place-in (i ∷ free) k (are.all k (sym same ∙ gap)))
      from k gap (inr (at, is)) = absurd (nothing-given x (sym is ∙ gap))

  -- after an element is removed
  pub gaps-removed : (free : List ℕ) (i : ℕ) (x : A) → slice_get xs i ≡ Some (Some x) → HasEachOnce free (IsGap xs)
      → HasEachOnce (i ∷ free) (IsGap (slice_set xs i None))
  gaps-removed free i x there are = record {
    each = λ k in_free. gap k (place-in (i ∷ free) k in_free);
    all = λ k is. from k is (place-set xs i None k);
    once = λ k place other e f. once k place other e f;
  }
    where
      now : IsGap (slice_set xs i None) i
      now = place-set_same xs i None (Some x) there

      still : (k : ℕ) → IsGap xs k → IsGap (slice_set xs i None) k
      still k was = by (place-set xs i None k)
        where
          by : (slice_get (slice_set xs i None) k ≡ slice_get xs k)
              ⊎ ((k ≡ i) × (slice_get (slice_set xs i None) k ≡ Some None)) → IsGap (slice_set xs i None) k
          by (inl same) = same ∙ was
          by (inr (at, is)) = is

      gap : (k : ℕ) → (place : ℕ) × (slice_get (i ∷ free) place ≡ Some k) → IsGap (slice_set xs i None) k
      gap k (zero, at) = ap (slice_get (slice_set xs i None)) (sym (some-injective i k at)) ∙ now
      gap k (suc place, at) = still k (are.each k (contains-at free place k at))

      from : (k : ℕ) → IsGap (slice_set xs i None) k → (slice_get (slice_set xs i None) k ≡ slice_get xs k)
          ⊎ ((k ≡ i) × (slice_get (slice_set xs i None) k ≡ Some None)) → Contains (i ∷ free) k
      from k is (inl same) = let (place, at) = place-in free k (are.all k (sym same ∙ is)) in
          contains-at (i ∷ free) (suc place) k at
      from k is (inr (at, _)) = contains-at (i ∷ free) 0 k (ap Some (sym at))

      new : (k place : ℕ) → i ≡ k → slice_get free place ≡ Some k → ⊥
      new k place at e = nothing-given x (sym there ∙ ap (slice_get xs) at ∙ are.each k (contains-at free place k e))

      once : (k place other : ℕ) → slice_get (i ∷ free) place ≡ Some k → slice_get (i ∷ free) other ≡ Some k
          → place ≡ other
      once k zero zero e f = refl
      once k zero (suc other) e f = absurd (new k other (some-injective i k e) f)
      once k (suc place) zero e f = absurd (new k place (some-injective i k f) e)
      once k (suc place) (suc other) e f = ap suc (are.once k place other e f)

  -- after an element takes the place of another
  pub gaps-replaced : (free : List ℕ) (i : ℕ) (x y : A) → slice_get xs i ≡ Some (Some x) → HasEachOnce free (IsGap xs)
      → HasEachOnce free (IsGap (slice_set xs i (Some y)))
  gaps-replaced free i x y there are = record {
    each = λ k in_free. place-set_other xs i (Some y) k
        (λ same. nothing-given x (sym there ∙ ap (slice_get xs) (sym same) ∙ are.each k in_free)) ∙ are.each k in_free;
    all = λ k is. from k is (place-set xs i (Some y) k);
    once = are.once;
  }
    where
      from : (k : ℕ) → IsGap (slice_set xs i (Some y)) k → (slice_get (slice_set xs i (Some y)) k ≡ slice_get xs k)
          ⊎ ((k ≡ i) × (slice_get (slice_set xs i (Some y)) k ≡ Some (Some y))) → Contains free k
      from k is (inl same) = are.all k (sym same ∙ is)
      from k is (inr (at, now)) = absurd (nothing-given y (sym now ∙ is))

-- all elements of a table without gaps are there
pub no-gap-count : {A : Type 0} (xs : List (Option A)) → ((place : ℕ) → ¬ IsGap xs place)
    → length xs ≤ count_by is_some xs
no-gap-count [] none = omega arith
no-gap-count (None ∷ xs) none = absurd (none 0 refl)
no-gap-count (Some x ∷ xs) none = omega
    (arith, no-gap-count xs (λ place gap. none (suc place) gap), sum_by-cons (λ o. cond (is_some o) 1 0) (Some x) xs)

-- if numbers are given again, a table is full only if as many are there as its limit allows
pub full-count : {A : Type 0} (xs : List (Option A)) (free : List ℕ) (is_full : Bool) → HasEachOnce free (IsGap xs)
    → (is_none_free free && is_full) ≡ true → (length xs ≤ count_by is_some xs) × (is_full ≡ true)
full-count xs [] is_full are full = (no-gap-count xs (λ place gap. contains-nothing place (are.all place gap)), full)
full-count xs (place ∷ free) is_full are full = cc
