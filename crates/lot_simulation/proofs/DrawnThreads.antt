-- The winner of a draw is one of the numbered threads.
use Rattle.lot_simulation.proofs.Common.{Bool, Drawn, IsBetween, List, None, Option, Record, Some, State, Status, ap, arith, at_number, at_number-suc, false, filter, get_or, get_or_from_slice_get, inl, inr, is_ready, length, length-map, map, numbered, numbers, option_any, ready_threads, refl, slice_get, slice_get-get_or, slice_get_cases, slice_index, status_of, suc, sym, true, weight_of, winner, winner-within, zero, ℕ, [], ◌-◌, ◌<◌, ◌∙◌, ◌∷◌, ◌≡◌, ◌≤◌, ◌⊎◌}

-- what stands at a number within the list
pub number-some : {A : Type 0} (xs : List A) (n : ℕ) (d : A) → IsBetween 1 (length xs) n
    → at_number xs n ≡ Some (get_or xs (n - 1) d)
number-some xs zero d within = absurd (omega arith)
number-some xs (suc i) d within =
    let place : suc i - 1 ≡ i = omega arith in at_number-suc xs i ∙ slice_get-get_or xs i d (omega (arith, within))
    ∙ ap (λ k. Some (get_or xs k d)) (sym place)

some-status : (o : Option Status) → option_any is_ready o ≡ true → (status : Status) × (o ≡ Some status)
some-status None e = cc
some-status (Some status) e = (status, refl)

-- what a filter keeps passes
filter-passes : (test : ℕ → Bool) (xs : List ℕ) (i x : ℕ) → slice_get (filter test xs) i ≡ Some x → test x ≡ true
filter-passes test [] i x e = cc
filter-passes test (y ∷ ys) i x e = at (λ j. filter-passes test ys j x) (test y) refl
  where
    at : ((j : ℕ) → slice_get (filter test ys) j ≡ Some x → test x ≡ true) → (b : Bool) → test y ≡ b → test x ≡ true
    at more false is = let shorter : filter test (y ∷ ys) ≡ filter test ys = rw is refl in
        more i (sym (ap (λ zs. slice_get zs i) shorter) ∙ e)
    at more true is = let shorter : filter test (y ∷ ys) ≡ y ∷ filter test ys = rw is refl in
        from i (sym (ap (λ zs. slice_get zs i) shorter) ∙ e)
      where
        from : (j : ℕ) → slice_get (y ∷ filter test ys) j ≡ Some x → test x ≡ true
        from zero here = let first : y ≡ x = cc in ap test (sym first) ∙ is
        from (suc j) here = more j here

-- a place of the Ready threads holds a thread
ready-there : (records : List Record) (place : ℕ) → place < length (ready_threads records)
    → IsBetween 1 (length records) (slice_index (ready_threads records) place)
ready-there records place below = from (slice_get_cases (ready_threads records) place).1
  where
    from : ((x : ℕ) × (place < length (ready_threads records)) × (slice_get (ready_threads records) place ≡ Some x)
        × (get_or (ready_threads records) place x ≡ x))
        ⊎ ((length (ready_threads records) ≤ place) × (slice_get (ready_threads records) place ≡ None))
        → IsBetween 1 (length records) (slice_index (ready_threads records) place)
    from (inl (x, within, is, there)) =
        let passes = filter-passes (λ u. option_any is_ready (status_of records u)) (numbers records) place x is in
        let some = some-status (status_of records x) passes in
        let drawn : slice_index (ready_threads records) place ≡ x =
        get_or_from_slice_get (ready_threads records) place x 0 is in
        let there = numbered records x some.0 some.1 in
        rw drawn (there.0, omega (arith, there.1))
    from (inr (past, none)) = absurd (omega arith)

pub drawn-numbered : (s : State) (d : ℕ) (w : Drawn) → winner (map (weight_of s) (ready_threads s.records)) d ≡ Some w
    → IsBetween 1 (length s.records) (slice_index (ready_threads s.records) w.place)
drawn-numbered s d w is =
    let within = winner-within (map (weight_of s) (ready_threads s.records)) d w is in
    ready-there s.records w.place (omega (arith, within, length-map (ready_threads s.records) (weight_of s)))
