-- The waiters for a mutex together are worth no more than the mutex.
use Rattle.lot_mutex.proofs.Common.{All, Bool, Contains, Drawn, IfSome, IsFirstAbove, IsQueue, IsStaleIn, IsThreadOf, List, MatchOption, Nobody, Node, None, Option, Record, Some, Threaded, ToMutex, Waiting, ap, apart-from, arith, at_number, at_number-map, borrower_of, contains-nothing, eq-eqb, false, filter-contains, funding_in, if◌then◌else◌, is_live, is_live_status, is_to_mutex, lend-at, lend_of, lends-to-nobody, lends_in, length, length-map, live_in, map, mutex_value, number-high, number-low, numbers, option_any, option_map, place-in, range-contains, refl, slice_get, slice_get-get_or, some-injective, subst, suc, sum, sum-map, sum_by, sum_by-cons, sums-within, true, unlent-nothing, waiters_for, winner, winner-is, worth_in, ℕ, [], ◌%◌, ◌<◌, ◌∙◌, ◌∷◌, ◌≡◌, ◌≤◌}

-- what is worth nothing each is worth nothing together
nothing-together : (value : ℕ → ℕ) (xs : List ℕ) → ((place t : ℕ) → slice_get xs place ≡ Some t → value t ≡ 0)
    → sum_by value xs ≡ 0
nothing-together value [] none = refl
nothing-together value (x ∷ xs) none =
    omega (arith, sum_by-cons value x xs, none 0 x refl, nothing-together value xs (λ place t e. none (suc place) t e))

module _ (v : Threaded) (m : ℕ) (waiters : List ℕ) (queue : IsQueue v.records (Waiting m) waiters) where
  -- who waits lends to the mutex
  lends : v.lending.without_lending ≡ false → (t : ℕ) → Contains waiters t
      → at_number (lends_in v.lending v.records) t ≡ Some (ToMutex m)
  lends on t c = let r = place-in waiters t c in lend-at v.lending v.records t (Waiting m) (queue.each r.0 t r.1)
      ∙ ap (λ (without : Bool). Some (if without then Nobody else ToMutex m)) on

  waits : v.lending.without_lending ≡ false → (t : ℕ) → Contains waiters t → Contains (waiters_for (funding_in v) m) t
  waits on t c =
      let there = lends on t c in
      let all = lends_in v.lending v.records in
      let low = number-low all t (ToMutex m) there in
      let high = number-high all t (ToMutex m) there in
      filter-contains (λ u. option_any (is_to_mutex m) (at_number all u)) (numbers all) t
      (ap (option_any (is_to_mutex m)) there ∙ eq-eqb m m refl)
      (range-contains 1 (length all) t (omega (arith, low)) (omega (arith, high)))

  -- or, without lending, is worth nothing
  worth-nothing : v.lending.without_lending ≡ true → (place t : ℕ) → slice_get waiters place ≡ Some t → worth_in v t ≡ 0
  worth-nothing off place t e = unlent-nothing (funding_in v) (live_in v.records) nobody v.unit t gone
    where
      nobody : (u : ℕ) → borrower_of (funding_in v) u ≡ None
      nobody u = lends-to-nobody v.lending off (funding_in v) v.records u

      by : (o : Option Record) → option_map (λ (r : Record). r.status) o ≡ Some (Waiting m)
          → option_any (λ flag. flag) (option_map (λ (r : Record). is_live_status r.status) o) ≡ false
      by None none = cc
      by (Some r) is = ap is_live_status (some-injective r.status (Waiting m) is)

      gone : is_live (live_in v.records) t ≡ false
      gone = ap (option_any (λ flag. flag)) (at_number-map (λ (r : Record). is_live_status r.status) v.records t)
          ∙ by (at_number v.records t) (queue.each place t e)

  pub worths-little : sum (map (worth_in v) waiters) ≤ mutex_value v.unit (funding_in v) (live_in v.records) m
  worths-little = by v.lending.without_lending refl
    where
      by : (b : Bool) → v.lending.without_lending ≡ b
          → sum (map (worth_in v) waiters) ≤ mutex_value v.unit (funding_in v) (live_in v.records) m
      by true off =
          omega (arith, sum-map (worth_in v) waiters, nothing-together (worth_in v) waiters (worth-nothing off))
      by false on =
          let within = sums-within (worth_in v) waiters (waiters_for (funding_in v) m)
          (apart-from waiters (λ t place other at also. queue.once place other t at also)) (waits on) in
          omega (arith, sum-map (worth_in v) waiters, within)

  -- and is there
  pub waiters-there : All (IsThreadOf v) waiters
  waiters-there k d below =
      let all = lends_in v.lending v.records in
      let there = lend-at v.lending v.records _ (Waiting m) (queue.each k _ (slice_get-get_or waiters k d below)) in
      (number-low all _ _ there, omega (arith, number-high all _ _ there, length-map v.records (λ (r : Record). lend_of v.lending r.status)))

-- what isn't stale, where nothing is
pub settled-fresh : (v : Threaded) (x : Node) → v.stale ≡ [] → ¬ IsStaleIn v x
settled-fresh v x settled stale = contains-nothing x (subst (λ (xs : List Node). Contains xs x) settled stale)

-- nobody wins where nothing is to be drawn
pub none-wins : (ws : List ℕ) (d : ℕ) → sum ws ≡ 0 → winner ws d ≡ None
none-wins ws d none = by (winner ws d) (winner-is ws d)
  where
    by : (o : Option Drawn) → MatchOption o (sum ws ≡ 0)
        (λ w. IsFirstAbove ws w.number w.place × (w.number ≡ d % sum ws) × (w.number < sum ws) × (w.total ≡ sum ws))
        → o ≡ None
    by None is = refl
    by (Some w) is = let (_, _, below, _) = is in absurd (omega (arith, below, none))

-- what is drawn is below what was drawn among
pub drawn-small : (ws : List ℕ) (d bound : ℕ) → sum ws < bound
    → IfSome (winner ws d) (λ w. (w.number < bound) × (w.total < bound))
drawn-small ws d bound small = at (winner ws d) (winner-is ws d)
  where
    at : (o : Option Drawn) → MatchOption o (sum ws ≡ 0)
        (λ w. IsFirstAbove ws w.number w.place × (w.number ≡ d % sum ws) × (w.number < sum ws) × (w.total ≡ sum ws))
        → IfSome o (λ w. (w.number < bound) × (w.total < bound))
    at None is = tt
    at (Some w) is = let (_, _, below, total) = is in (omega (arith, below, small), omega (arith, total, small))
