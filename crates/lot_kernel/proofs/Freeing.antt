-- The kernel's free places against those of the state, and a new element in the first of them.
use Rattle.lot_kernel.proofs.Common.{Bool, Contains, HasEachOnce, HasIdlePlace, IsGap, IsInOrder, List, None, Option, Some, State, ap, apart-from, arith, at_number, at_number-suc, clients_of, cond, contains-at, false, free_currencies, free_threads, free_tickets, length, next_place, place-in, placed, range-contains, range_with_len, refl, set_number, slice_get, slice_get_within, slice_set, some-injective, subst, suc, sum_by, sum_by-cons, sums-within, sym, true, unwrap_or, zero, ℕ, [], ◌+◌, ◌-◌, ◌<◌, ◌∙◌, ◌∷◌, ◌≡◌}

-- ---- the free places of a state

-- none if numbers are given once
pub given-same : (reuse : Bool) (free : List ℕ) → (reuse ≡ false → free ≡ []) → cond {A = List ℕ} reuse free [] ≡ free
given-same true free none = refl
given-same false free none = sym (none refl)

-- a place is free only if numbers are given again
pub reuses : (reuse : Bool) (free : List ℕ) (place : ℕ) → slice_get (cond {A = List ℕ} reuse free []) 0 ≡ Some place
    → reuse ≡ true
reuses true free place first = refl
reuses false free place first = cc

-- the first free place is a gap
first-gap : {A : Type 0} (reuse : Bool) (xs : List (Option A)) (free : List ℕ) (place : ℕ)
    → (reuse ≡ true → HasEachOnce free (IsGap xs)) → slice_get (cond {A = List ℕ} reuse free []) 0 ≡ Some place
    → slice_get xs place ≡ Some None
first-gap true xs free place gaps first = (gaps refl).each place (contains-at free 0 place first)
first-gap false xs free place gaps first = cc

module _ (s : State) (order : IsInOrder s) (place : ℕ) where
  pub ticket-gap : slice_get (free_tickets s) 0 ≡ Some place → slice_get s.tickets place ≡ Some None
  ticket-gap = first-gap s.limits.reuse s.tickets s.freed.tickets place (λ on. (order.gaps on).tickets)

  pub currency-gap : slice_get (free_currencies s) 0 ≡ Some place → slice_get s.currencies place ≡ Some None
  currency-gap = first-gap s.limits.reuse s.currencies s.freed.currencies place (λ on. (order.gaps on).currencies)

  pub thread-gap : slice_get (free_threads s) 0 ≡ Some place → slice_get s.threads place ≡ Some None
  thread-gap = first-gap s.limits.reuse s.threads s.freed.threads place (λ on. (order.gaps on).threads)

-- by its number
pub gap-number : {A : Type 0} (xs : List (Option A)) (place : ℕ) → slice_get xs place ≡ Some None
    → at_number xs (place + 1) ≡ Some None
gap-number xs place gap = let next : place + 1 ≡ suc place = omega arith in ap (at_number xs) next
    ∙ at_number-suc xs place ∙ gap

pub set-place : {A : Type 0} (xs : List A) (place : ℕ) (x : A) → set_number xs (place + 1) x ≡ slice_set xs place x
set-place xs place x = let same : place + 1 - 1 ≡ place = omega arith in ap (λ i. slice_set xs i x) same

-- the table with one more, if this place is the first, or if none is free
pub placed-first : {A : Type 0} (xs : List A) (free : List ℕ) (place : ℕ) (x : A) → slice_get free 0 ≡ Some place
    → placed xs free x ≡ slice_set xs place x
placed-first xs [] place x first = cc
placed-first xs (i ∷ free) place x first = ap (λ j. slice_set xs j x) (some-injective i place first)

pub next-first : {A : Type 0} (xs : List A) (free : List ℕ) (place : ℕ) → slice_get free 0 ≡ Some place
    → next_place xs free ≡ place
next-first xs [] place first = cc
next-first xs (i ∷ free) place first = some-injective i place first

pub no-first : (free : List ℕ) → slice_get free 0 ≡ None → free ≡ []
no-first [] none = refl
no-first (i ∷ free) none = cc

-- in a state that is in order a thread's free place is idle
pub idle-place : (s : State) → IsInOrder s → length s.clients ≡ length s.threads → HasIdlePlace s
idle-place s order many place first =
    (gap, by (at-place s.clients place (omega (arith, many, slice_get_within s.threads place None gap))))
  where
    gap : slice_get s.threads place ≡ Some None
    gap = thread-gap s order place first

    at-place : {A : Type 0} (xs : List A) (i : ℕ) → i < length xs → (x : A) × (slice_get xs i ≡ Some x)
    at-place [] i low = absurd (omega (arith, low))
    at-place (x ∷ xs) zero low = (x, refl)
    at-place (x ∷ xs) (suc i) low = at-place xs i (omega (arith, low))

    by : (x : List ℕ) × (slice_get s.clients place ≡ Some x) → slice_get s.clients place ≡ Some []
    by (x, there) =
        let idle : clients_of s.clients (suc place) ≡ [] =
        order.idle (suc place) (at_number-suc s.threads place ∙ gap) in
        let seen : clients_of s.clients (suc place) ≡ x =
        ap (λ (o : Option (List ℕ)). unwrap_or o []) (at_number-suc s.clients place ∙ there) in
        there ∙ ap Some (sym seen ∙ idle)

-- ---- room for one more free place

-- fewer places are free than a table has, if an element is there
sum-ones : (xs : List ℕ) → sum_by (λ (y : ℕ). let one : ℕ = 1 in one) xs ≡ length xs
sum-ones [] = refl
sum-ones (x ∷ xs) = omega (arith, sum_by-cons (λ (y : ℕ). let one : ℕ = 1 in one) x xs, sum-ones xs)

range-ones : (a n : ℕ) → sum_by (λ (y : ℕ). let one : ℕ = 1 in one) (range_with_len a n) ≡ n
range-ones a zero = refl
range-ones a (suc n) =
    omega (arith, sum_by-cons (λ (y : ℕ). let one : ℕ = 1 in one) a (range_with_len (a + 1) n), range-ones (a + 1) n)

pub free-few : {A : Type 0} (xs : List (Option A)) (free : List ℕ) (i : ℕ) (x : A) → HasEachOnce free (IsGap xs)
    → slice_get xs i ≡ Some (Some x) → length free < length xs
free-few xs free i x are there =
    let all = sums-within (λ (y : ℕ). let one : ℕ = 1 in one) (i ∷ free) (range_with_len 0 (length xs))
    (new, apart-from free are.once) (λ k c. within k (place-in (i ∷ free) k c)) in
    omega (arith, all, sum-ones (i ∷ free), range-ones 0 (length xs))
  where
    new : ¬ Contains free i
    new c = let never : Some (Some x) ≡ Some None = sym there ∙ are.each i c in cc

    low : (k : ℕ) → k < length xs → Contains (range_with_len 0 (length xs)) k
    low k below = range-contains 0 (length xs) k (omega arith) (omega (arith, below))

    within : (k : ℕ) → (place : ℕ) × (slice_get (i ∷ free) place ≡ Some k) → Contains (range_with_len 0 (length xs)) k
    within k (zero, at) =
        low k (subst (λ j. j < length xs) (some-injective i k at) (slice_get_within xs i (Some x) there))
    within k (suc place, at) = low k (slice_get_within xs k None (are.each k (contains-at free place k at)))
