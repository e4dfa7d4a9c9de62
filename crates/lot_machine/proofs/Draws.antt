-- The winner's index is the first whose running sum is greater than the number.
use Rattle.lot_machine.proofs.Common.{Bool, Drawn, IsFirstAbove, List, MatchOption, None, Some, arith, cases_lt, eqb-false, eqb-true, false, first_above, if◌then◌else◌, inl, inr, ltb-false, ltb-true, mod-lt, nat_lt, refl, running_sums, suc, sum, sum_by-cons, take, true, winner, zero, ℕ, [], ◌%◌, ◌+◌, ◌<◌, ◌==◌, ◌∷◌, ◌≡◌, ◌≤◌, ◌⊎◌}

-- the place is the first at which what stands before and the sum up to there are greater than n
abbrev pub IsFirst : List ℕ → ℕ → ℕ → ℕ → Type 0
IsFirst ws before n place = (n < before + sum (take (suc place) ws))
    × ((k : ℕ) → k < place → before + sum (take (suc k) ws) ≤ n)

pub first_above-running_sums : (ws : List ℕ) (before n : ℕ) → n < before + sum ws → before ≤ n
    → IsFirst ws before n (first_above n (running_sums before ws))
first_above-running_sums [] before n h low = absurd (omega (arith, h, low))
first_above-running_sums (w ∷ ws) before n h low = at (nat_lt n (before + w)) refl
    (λ low'. first_above-running_sums ws (before + w) n (omega (arith, h, sum_by-cons (λ x. x) w ws)) low')
  where
    at : (b : Bool) → nat_lt n (before + w) ≡ b
        → (before + w ≤ n → IsFirst ws (before + w) n (first_above n (running_sums (before + w) ws)))
        → IsFirst (w ∷ ws) before n (if b then 0 else suc (first_above n (running_sums (before + w) ws)))
    at true e next = (omega (arith, ltb-true n (before + w) e, sum_by-cons (λ x. x) w (take 0 ws)), λ k below. absurd (omega (arith, below)))
    at false e next =
        let r = next (ltb-false n (before + w) e) in
        (omega (arith, r.0, sum_by-cons (λ x. x) w (take (suc (first_above n (running_sums (before + w) ws))) ws)), λ k below. earlier r.1 k below)
      where
        earlier : ((k : ℕ) → k < first_above n (running_sums (before + w) ws)
            → (before + w) + sum (take (suc k) ws) ≤ n)
            → (k : ℕ) → k < suc (first_above n (running_sums (before + w) ws))
            → before + sum (take (suc k) (w ∷ ws)) ≤ n
        earlier more zero below = omega (arith, ltb-false n (before + w) e, sum_by-cons (λ x. x) w (take 0 ws))
        earlier more (suc k) below =
            omega (arith, more k (omega (arith, below)), sum_by-cons (λ x. x) w (take (suc k) ws))

-- a number below the sum is first exceeded at the place where the walk ends
pub first_above-is : (ws : List ℕ) (n : ℕ) → n < sum ws → IsFirstAbove ws n (first_above n (running_sums 0 ws))
first_above-is ws n h =
    let r = first_above-running_sums ws 0 n (omega (arith, h)) (omega arith) in
    record { above = omega (arith, r.0); first = λ k below. omega (arith, r.1 k below) }

pub winner-is : (ws : List ℕ) (d : ℕ) → MatchOption (winner ws d) (sum ws ≡ 0)
    (λ w. IsFirstAbove ws w.number w.place × (w.number ≡ d % sum ws) × (w.number < sum ws) × (w.total ≡ sum ws))
winner-is ws d = at (sum ws == 0) refl
  where
    at : (b : Bool) → (sum ws == 0) ≡ b
        → MatchOption {T = Drawn} (if b then None else Some
        (record { place = first_above (d % sum ws) (running_sums 0 ws); number = d % sum ws; total = sum ws }))
        (sum ws ≡ 0)
        (λ w. IsFirstAbove ws w.number w.place × (w.number ≡ d % sum ws) × (w.number < sum ws) × (w.total ≡ sum ws))
    at true e = eqb-true (sum ws) 0 e
    at false e =
        let some : 0 < sum ws = from (cases_lt 0 (sum ws)) in
        let below : d % sum ws < sum ws = mod-lt d some in
        (first_above-is ws (d % sum ws) below, refl, below, refl)
      where
        from : (0 < sum ws) ⊎ (sum ws ≤ 0) → 0 < sum ws
        from (inl h) = h
        from (inr h) = absurd (eqb-false (sum ws) 0 e (omega (arith, h)))
