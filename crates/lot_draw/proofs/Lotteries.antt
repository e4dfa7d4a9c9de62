-- Competitors of weight 0 can be left out of a lottery.
use Rattle.lot_draw.proofs.Common.{Bool, Competitor, Contains, IfSome, IsSome, List, None, Option, Some, Winner, add_comm, ap, arith, competing_threads, competitor_at, cond, contains-at, contains-filter, drawn_among, eqb-false, eqb-true, false, filter, first_above, get_or, get_or-range_with_len, is_some, length, length-map, ltb-false, ltb-true, map, mod-lt, nat_lt, numbers, refl, running_sums, slice_get-get_or, suc, sum, sum_by-cons, sym, true, weight_among, winner, winner_among, ℕ, [], ◌%◌, ◌+◌, ◌<◌, ◌==◌, ◌∙◌, ◌∷◌, ◌≡◌, ◌≤◌}

module _ (competes : ℕ → Bool) (weight : ℕ → ℕ) (idle : (t : ℕ) → competes t ≡ false → weight t ≡ 0) where
  -- the total is the same
  same-total : (ts : List ℕ) → sum (map weight (filter competes ts)) ≡ sum (map weight ts)
  same-total [] = refl
  same-total (t ∷ ts) = by (competes t) refl (same-total ts)
    where
      by : (b : Bool) → competes t ≡ b → sum (map weight (filter competes ts)) ≡ sum (map weight ts)
          → sum (map weight (cond b (t ∷ filter competes ts) (filter competes ts))) ≡ sum (map weight (t ∷ ts))
      by true e same = omega (arith, same, sum_by-cons (λ x. x) (weight t) (map weight (filter competes ts)), sum_by-cons (λ x. x) (weight t) (map weight ts))
      by false e same = omega (arith, same, idle t e, sum_by-cons (λ x. x) (weight t) (map weight ts))

  -- with this sum before them, the same one is drawn
  abbrev IsSame : List ℕ → ℕ → ℕ → Type 0
  IsSame ts before number =
      get_or ts (first_above number (running_sums before (map weight ts))) 0
      ≡ get_or (filter competes ts) (first_above number (running_sums before (map weight (filter competes ts)))) 0

  same-thread : (ts : List ℕ) (before number : ℕ) → before ≤ number → IsSame ts before number
  same-thread [] before number low = refl
  same-thread (t ∷ ts) before number low =
      by (competes t) refl (λ below. same-thread ts (before + weight t) number below)
    where
      among : (b : Bool) → nat_lt number (before + weight t) ≡ b
          → (before + weight t ≤ number → IsSame ts (before + weight t) number)
          → get_or (t ∷ ts) (cond b 0 (suc (first_above number (running_sums (before + weight t) (map weight ts))))) 0
          ≡ get_or (t ∷ filter competes ts)
          (cond b 0 (suc (first_above number (running_sums (before + weight t) (map weight (filter competes ts)))))) 0
      among true e next = refl
      among false e next = next (ltb-false number (before + weight t) e)

      passed : weight t ≡ 0 → (b : Bool) → nat_lt number (before + weight t) ≡ b
          → (before + weight t ≤ number → IsSame ts (before + weight t) number)
          → get_or (t ∷ ts) (cond b 0 (suc (first_above number (running_sums (before + weight t) (map weight ts))))) 0
          ≡ get_or (filter competes ts) (first_above number (running_sums before (map weight (filter competes ts)))) 0
      passed nothing true e next = absurd (omega (arith, ltb-true number (before + weight t) e))
      passed nothing false e next =
          let same : before + weight t ≡ before = omega arith in
          next (omega arith) ∙ ap (λ b.
          get_or (filter competes ts) (first_above number (running_sums b (map weight (filter competes ts)))) 0) same

      by : (b : Bool) → competes t ≡ b → (before + weight t ≤ number → IsSame ts (before + weight t) number)
          → get_or (t ∷ ts) (cond (nat_lt number (before + weight t)) 0
          (suc (first_above number (running_sums (before + weight t) (map weight ts))))) 0
          ≡ get_or (cond b (t ∷ filter competes ts) (filter competes ts)) (first_above number
          (running_sums before (map weight (cond b (t ∷ filter competes ts) (filter competes ts))))) 0
      by true e next = among (nat_lt number (before + weight t)) refl next
      by false e next = passed (idle t e) (nat_lt number (before + weight t)) refl next

  -- a lottery with this total
  abbrev with-total : List ℕ → ℕ → ℕ → Bool → Option Winner
  with-total ts d total b = winner_among ts (cond b None (Some
      (record { place = first_above (d % total) (running_sums 0 (map weight ts)); number = d % total; total = total })))

  -- so the winner is the same
  pub same-winner : (ts : List ℕ) (d : ℕ) → winner_among ts (winner (map weight ts) d)
      ≡ winner_among (filter competes ts) (winner (map weight (filter competes ts)) d)
  same-winner ts d = among (sum (map weight ts)) (sum (map weight ts) == 0)
      ∙ ap (λ total. with-total (filter competes ts) d total (total == 0)) (sym (same-total ts))
    where
      among : (total : ℕ) (b : Bool) → with-total ts d total b ≡ with-total (filter competes ts) d total b
      among total true = refl
      among total false = ap (λ t. Some (record { thread = t; number = d % total; total = total }))
          (same-thread ts 0 (d % total) (omega arith))

-- ---- the lottery over all places

-- who stands at the place that is drawn among all threads
pub drawn-is : {A : Type 0} (xs : List A) (ws : List ℕ) (d place number total : ℕ) → total ≡ sum ws → 0 < total
    → number ≡ d % total → place ≡ first_above number (running_sums 0 ws) → place < length xs
    → Some (record { thread = place + 1; number = number; total = total }) ≡ winner_among (numbers xs) (winner ws d)
drawn-is xs ws d place number total is_total some is_number is_place low = by (sum ws == 0) refl
  where
    drawn : number ≡ d % sum ws
    drawn = is_number ∙ ap (λ n. d % n) is_total

    at : place ≡ first_above (d % sum ws) (running_sums 0 ws)
    at = is_place ∙ ap (λ n. first_above n (running_sums 0 ws)) drawn

    thread : place + 1 ≡ get_or (numbers xs) (first_above (d % sum ws) (running_sums 0 ws)) 0
    thread = sym (ap (λ n. get_or (numbers xs) n 0) (sym at) ∙ get_or-range_with_len 1 (length xs) place 0 low
        ∙ add_comm 1 place)

    won : ℕ → ℕ → ℕ → Option Winner
    won t n all = Some (record { thread = t; number = n; total = all })

    by : (b : Bool) → (sum ws == 0) ≡ b
        → Some (record { thread = place + 1; number = number; total = total }) ≡ winner_among (numbers xs) (cond b None
        (Some (record { place = first_above (d % sum ws) (running_sums 0 ws); number = d % sum ws; total = sum ws })))
    by true e = absurd (omega (arith, eqb-true (sum ws) 0 e, is_total))
    by false e =
        let t = get_or (numbers xs) (first_above (d % sum ws) (running_sums 0 ws)) 0 in
        ap (λ k. won k number total) thread ∙ ap (λ n. won t n total) drawn ∙ ap (won t (d % sum ws)) is_total

-- ---- who wins is among those who draw

place-low : (ws : List ℕ) (before n : ℕ) → before ≤ n → n < before + sum ws
    → first_above n (running_sums before ws) < length ws
place-low [] before n low h = absurd (omega (arith, h, low))
place-low (w ∷ ws) before n low h = at (nat_lt n (before + w)) refl
    (λ low'. place-low ws (before + w) n low' (omega (arith, h, sum_by-cons (λ x. x) w ws)))
  where
    at : (b : Bool) → nat_lt n (before + w) ≡ b
        → (before + w ≤ n → first_above n (running_sums (before + w) ws) < length ws)
        → cond b 0 (suc (first_above n (running_sums (before + w) ws))) < suc (length ws)
    at true e next = omega arith
    at false e next = omega (arith, next (ltb-false n (before + w) e))

pub winner-drew : (threads ws : List ℕ) (d : ℕ) → length ws ≡ length threads
    → IfSome (winner_among threads (winner ws d)) (λ w. Contains threads w.thread)
winner-drew threads ws d same = by (sum ws == 0) refl
  where
    by : (b : Bool) → (sum ws == 0) ≡ b → IfSome (winner_among threads (cond b None
        (Some (record { place = first_above (d % sum ws) (running_sums 0 ws); number = d % sum ws; total = sum ws }))))
        (λ w. Contains threads w.thread)
    by true e = tt
    by false e =
        let place = first_above (d % sum ws) (running_sums 0 ws) in
        let some : 0 < sum ws = omega (arith, eqb-false (sum ws) 0 e) in
        let low : place < length threads =
        omega (arith, place-low ws 0 (d % sum ws) (omega arith) (omega (arith, mod-lt d some)), same) in
        contains-at threads place (get_or threads place 0) (slice_get-get_or threads place 0 low)

-- and competes
pub winner-competes : (quantum : ℕ) (competitors : List (Option Competitor)) (worth : ℕ → ℕ) (d : ℕ)
    → IfSome (drawn_among quantum competitors worth d) (λ w. IsSome (competitor_at competitors w.thread))
winner-competes quantum competitors worth d =
    there (drawn_among quantum competitors worth d) (winner-drew (competing_threads competitors)
    (map (weight_among quantum competitors worth) (competing_threads competitors)) d
    (length-map (competing_threads competitors) (weight_among quantum competitors worth)))
  where
    is-some : (o : Option Competitor) → is_some o ≡ true → IsSome o
    is-some None e = cc
    is-some (Some c) e = refl

    there : (o : Option Winner) → IfSome o (λ w. Contains (competing_threads competitors) w.thread)
        → IfSome o (λ w. IsSome (competitor_at competitors w.thread))
    there None drew = tt
    there (Some w) drew = is-some (competitor_at competitors w.thread)
        (contains-filter (λ t. is_some (competitor_at competitors t)) (numbers competitors) w.thread drew).1
