-- Lists of waiting threads, index by index.
use Rattle.lot_mutex.proofs.Common.{Contains, IsQueue, List, Record, Some, Status, ap, arith, cases_lt, contains-at, eq-or-lt_of_le, get_or_from_slice_get, inl, inr, length, slice_get, slice_get-get_or, slice_get_within, slice_index, status_of, subst, suc, sym, take, zero, ℕ, [], ◌+◌, ◌<◌, ◌∙◌, ◌∷◌, ◌≡◌, ◌≤◌, ◌⊎◌}

-- what holds at each place before one, and at that one, holds at each up to it
pub up-to : (P : ℕ → Type 0) (n : ℕ) → ((k : ℕ) → k < n → P k) → P n → (k : ℕ) → k < n + 1 → P k
up-to P n before here k low = by (eq-or-lt_of_le (omega (arith, low)))
  where
    by : (k ≡ n) ⊎ (k < n) → P k
    by (inl same) = subst P (sym same) here
    by (inr below) = before k below

-- what stands before a place is among those taken up to it
taken : (xs : List ℕ) (i n t : ℕ) → i < n → slice_get xs i ≡ Some t → slice_get (take n xs) i ≡ Some t
taken [] i n t low at = cc
taken (x ∷ xs) i zero t low at = absurd (omega (arith, low))
taken (x ∷ xs) zero (suc n) t low at = at
taken (x ∷ xs) (suc i) (suc n) t low at = taken xs i n t (omega (arith, low)) at

-- threads with this status, none of which stands at an earlier place, are a queue
pub queue-from : (records : List Record) (s : Status) (waiters : List ℕ) (n : ℕ) → length waiters ≤ n
    → ((k : ℕ) → k < n → status_of records (slice_index waiters k) ≡ Some s)
    → ((k : ℕ) → k < n → ¬ Contains (take k waiters) (slice_index waiters k)) → IsQueue records s waiters
queue-from records s waiters n all wait first = record { each = each; once = once }
  where
    stands : (place t : ℕ) → slice_get waiters place ≡ Some t → slice_index waiters place ≡ t
    stands place t at = get_or_from_slice_get waiters place t 0 at

    within : (place t : ℕ) → slice_get waiters place ≡ Some t → place < n
    within place t at = omega (arith, all, slice_get_within waiters place t at)

    each : (place t : ℕ) → slice_get waiters place ≡ Some t → status_of records t ≡ Some s
    each place t at = ap (status_of records) (sym (stands place t at)) ∙ wait place (within place t at)

    earlier : (place other t : ℕ) → place < other → slice_get waiters place ≡ Some t → slice_get waiters other ≡ Some t
        → ⊥
    earlier place other t below at also =
        first other (within other t also) (subst (Contains (take other waiters)) (sym (stands other t also))
        (contains-at (take other waiters) place t (taken waiters place other t below at)))

    once : (place other t : ℕ) → slice_get waiters place ≡ Some t → slice_get waiters other ≡ Some t → place ≡ other
    once place other t at also = by (cases_lt place other)
      where
        by : (place < other) ⊎ (other ≤ place) → place ≡ other
        by (inl below) = absurd (earlier place other t below at also)
        by (inr above) = last (eq-or-lt_of_le above)
          where
            last : (other ≡ place) ⊎ (other < place) → place ≡ other
            last (inl same) = sym same
            last (inr below) = absurd (earlier other place t below also at)

-- a queue has each of its threads at one place
pub queue-waits : (records : List Record) (s : Status) (waiters : List ℕ) (k : ℕ) → IsQueue records s waiters
    → k < length waiters → status_of records (slice_index waiters k) ≡ Some s
queue-waits records s waiters k queue low = queue.each k (slice_index waiters k) (slice_get-get_or waiters k 0 low)
