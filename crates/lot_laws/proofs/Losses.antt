-- The lists of numbers with which a thread that stays Ready loses all draws.
use Rattle.lot_laws.proofs.Common.{Bool, List, State, StaysReady, add-mul, all_draws, ap, arith, cond, count_by, count_by-le-length, false, length, length-range_with_len, loses_all, mul-le-mul_right, not, pow-succ', pow-zero, range_with_len, refl, subst, suc, sum-le, sum-nothing, sum-same, sum_by, sum_by-cons, sym, thread_wins, total_weight, true, weight_of, zero, ℕ, [], ◌&&◌, ◌*◌, ◌+◌, ◌-◌, ◌<◌, ◌^◌, ◌∙◌, ◌∷◌, ◌≡◌, ◌≤◌}
use Rattle.lot_laws.proofs.AllDraws.{sum-either, sum-lists, thread-of}

-- a longer range has as many numbers that pass, or more
count-more : (test : ℕ → Bool) (a m k : ℕ)
    → count_by test (range_with_len a m) ≤ count_by test (range_with_len a (m + k))
count-more test a zero k = omega arith
count-more test a (suc m) k =
    let longer : suc (m + k) ≡ suc m + k = omega arith in
    subst (λ n. count_by test (range_with_len a (suc m)) ≤ count_by test (range_with_len a n)) longer
    (omega (
      arith,
      sum_by-cons (λ x. cond (test x) 1 0) a (range_with_len (a + 1) m),
      sum_by-cons (λ x. cond (test x) 1 0) a (range_with_len (a + 1) (m + k)),
      count-more test (a + 1) m k,
    ))

-- what is left of the whole, if at least this is won
few : (lost won least most lists : ℕ) → lost + won * lists ≡ most * lists → least ≤ won → least ≤ most
    → lost ≤ (most - least) * lists
few lost won least most lists split enough within =
    let part : least * lists ≤ won * lists = mul-le-mul_right lists enough in
    let whole : (most - least) * lists + least * lists ≡ most * lists =
    sym (add-mul (most - least) least lists) ∙ ap (λ n. n * lists) (back most least within) in
    omega (arith, split, part, whole)
  where
    back : (m l : ℕ) → l ≤ m → m - l + l ≡ m
    back m l low = omega (arith, low)

-- so of all lists, if each that begins with a winning number is won
few-of : (all first second count bound least most long : ℕ) → all ≡ first → first ≤ second
    → second + count * bound ≡ count * 0 + long * bound → long ≡ most → count ≤ long → least ≤ count
    → all ≤ (most - least) * bound
few-of all first second count bound least most long one two split whole counted enough =
    let spread : second + count * bound ≡ most * bound =
    split ∙ ap (λ n. count * 0 + n * bound) whole ∙ nothing-first count (most * bound) in
    let left = few second count least most bound spread enough (omega (arith, whole, counted, enough)) in
    omega (arith, one, two, left)
  where
    nothing-first : (c n : ℕ) → c * 0 + n ≡ n
    nothing-first c n = omega arith

-- the draws after the first
stays-later : (before : List ℕ → State) (t least most n d : ℕ) → StaysReady before t least most (suc n)
    → StaysReady (λ earlier. before (d ∷ earlier)) t least most n
stays-later before t least most n d stays = record {
  ready = λ earlier few_drawn. stays.ready (d ∷ earlier) (omega (arith, few_drawn));
  weight = λ earlier few_drawn. stays.weight (d ∷ earlier) (omega (arith, few_drawn));
  total = λ earlier few_drawn. stays.total (d ∷ earlier) (omega (arith, few_drawn));
}

-- the lists that begin with this number
lost-after : (before : List ℕ → State) (p t d bound : ℕ) (lists : List (List ℕ))
    → count_by (loses_all (λ earlier. before (d ∷ earlier)) p t) lists ≤ bound
    → sum_by (λ rest. cond (loses_all before p t (d ∷ rest)) 1 0) lists
    ≤ cond (thread_wins (before []) p t d) 0 bound
lost-after before p t d bound lists few_lost = by (thread_wins (before []) p t d) refl
  where
    by : (b : Bool) → thread_wins (before []) p t d ≡ b
        → sum_by (λ rest. cond (loses_all before p t (d ∷ rest)) 1 0) lists ≤ cond b 0 bound
    by true is =
        let none : sum_by (λ rest. cond (loses_all before p t (d ∷ rest)) 1 0) lists ≡ 0 =
        sum-same (λ (rest : List ℕ). cond (loses_all before p t (d ∷ rest)) 1 0) (λ rest. 0) lists
        (λ rest. ap (λ b. cond (not b && loses_all (λ earlier. before (d ∷ earlier)) p t rest) 1 0) is)
        ∙ sum-nothing lists in
        omega (arith, none)
    by false is =
        let same : sum_by (λ rest. cond (loses_all before p t (d ∷ rest)) 1 0) lists
        ≡ count_by (loses_all (λ earlier. before (d ∷ earlier)) p t) lists =
        sum-same (λ (rest : List ℕ). cond (loses_all before p t (d ∷ rest)) 1 0)
        (λ rest. cond (loses_all (λ earlier. before (d ∷ earlier)) p t rest) 1 0) lists
        (λ rest. ap (λ b. cond (not b && loses_all (λ earlier. before (d ∷ earlier)) p t rest) 1 0) is) in
        omega (arith, same, few_lost)

pub loses-few : (n : ℕ) (before : List ℕ → State) (p t least most : ℕ) → StaysReady before t least most n
    → count_by (loses_all before p t) (all_draws most n) ≤ (most - least) ^ n
loses-few zero before p t least most stays =
    omega (arith, sum_by-cons (λ draws. cond (loses_all before p t draws) 1 0) [] [], pow-zero (most - least))
loses-few (suc n) before p t least most stays =
    let lists = all_draws most n in
    let bound = (most - least) ^ n in
    let wins : ℕ → Bool = thread_wins (before []) p t in
    let none : 0 < suc n = omega arith in
    let begun : count_by (loses_all before p t) (all_draws most (suc n))
    ≡ sum_by (λ d. sum_by (λ rest. cond (loses_all before p t (d ∷ rest)) 1 0) lists) (range_with_len 0 most) =
    sum-lists (λ draws. cond (loses_all before p t draws) 1 0) (range_with_len 0 most) n in
    let each : sum_by (λ d. sum_by (λ rest. cond (loses_all before p t (d ∷ rest)) 1 0) lists) (range_with_len 0 most)
    ≤ sum_by (λ d. cond (wins d) 0 bound) (range_with_len 0 most) =
    sum-le (λ d. sum_by (λ rest. cond (loses_all before p t (d ∷ rest)) 1 0) lists) (λ d. cond (wins d) 0 bound)
    (range_with_len 0 most) (λ d. lost-after before p t d bound lists
    (loses-few n (λ earlier. before (d ∷ earlier)) p t least most (stays-later before t least most n d stays))) in
    subst (λ m. count_by (loses_all before p t) (all_draws most (suc n)) ≤ m) (sym (pow-succ' (most - least) n))
    (few-of (count_by (loses_all before p t) (all_draws most (suc n)))
    (sum_by (λ d. sum_by (λ rest. cond (loses_all before p t (d ∷ rest)) 1 0) lists) (range_with_len 0 most))
    (sum_by (λ d. cond (wins d) 0 bound) (range_with_len 0 most)) (count_by wins (range_with_len 0 most)) bound
    least most (length (range_with_len 0 most)) begun each (sum-either wins 0 bound (range_with_len 0 most))
    (length-range_with_len 0 most) (count_by-le-length wins (range_with_len 0 most)) (enough none))
  where
    -- as many numbers below the largest total win as the thread weighs at least
    enough : 0 < suc n → least ≤ count_by (thread_wins (before []) p t) (range_with_len 0 most)
    enough none =
        let share = thread-of (before []) p t (stays.ready [] none) in
        let weighs = stays.weight [] none in
        let total : total_weight (before []) + (most - total_weight (before [])) ≡ most =
        back (total_weight (before [])) most (stays.total [] none) in
        let more = count-more (thread_wins (before []) p t) 0 (total_weight (before []))
        (most - total_weight (before [])) in
        least-of least (weight_of (before []) t)
        (count_by (thread_wins (before []) p t) (range_with_len 0 (total_weight (before []))))
        (count_by (thread_wins (before []) p t) (range_with_len 0 most)) weighs share
        (subst (λ m. count_by (thread_wins (before []) p t) (range_with_len 0 (total_weight (before [])))
        ≤ count_by (thread_wins (before []) p t) (range_with_len 0 m)) total more)
      where
        back : (m l : ℕ) → m ≤ l → m + (l - m) ≡ l
        back m l low = omega (arith, low)

        least-of : (l w c more : ℕ) → l ≤ w → c ≡ w → c ≤ more → l ≤ more
        least-of l w c more one two three = omega (arith, one, two, three)
