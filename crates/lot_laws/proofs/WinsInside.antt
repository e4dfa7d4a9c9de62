-- Of the numbers below a draw's total, as many let a thread inside win as the Ready threads inside weigh.
use Rattle.lot_laws.proofs.Common.{Bool, List, Node, Some, State, Thread, ap, arith, cond, count_by, draw, false, filter, if◌then◌else◌, is_won_inside, map, ne_eqb, range_with_len, ready_threads, refl, slice_index, suc, sum, sum-filter, sum_by, sum_by-append, sum_by-cons, sym, total_weight, true, weight_inside, weight_of, winner, wins_inside, zero, ℕ, [], ◌++◌, ◌+◌, ◌<◌, ◌==◌, ◌∙◌, ◌∷◌, ◌≡◌}
use Rattle.std.proofs.Common.{mod-eq_of_lt}
use Rattle.std.proofs.lemmas.Bool.{le-ltb, lt-ltb}
use Rattle.lot_machine.specs.Lottery.{first_above, running_sums}
use Rattle.lot_machine.proofs.Counts.{count-same}

-- ---- counting the numbers of a range

pub range-append : (a m n : ℕ) → range_with_len a (m + n) ≡ range_with_len a m ++ range_with_len (a + m) n
range-append a zero n =
    let count : 0 + n ≡ n = omega arith in
    let e : a ≡ a + 0 = omega arith in
    ap (range_with_len a) count ∙ ap (λ b. range_with_len b n) e
range-append a (suc m) n =
    let e : (a + 1) + m ≡ a + suc m = omega arith in
    let r : range_with_len (a + 1) (m + n) ≡ range_with_len (a + 1) m ++ range_with_len ((a + 1) + m) n =
    range-append (a + 1) m n in
    let count : suc m + n ≡ suc (m + n) = omega arith in
    ap (range_with_len a) count ∙ ap (λ l. a ∷ l) (r ∙ ap (λ b. range_with_len (a + 1) m ++ range_with_len b n) e)

-- a test that is the same everywhere counts all or none
count-always : (b : Bool) (a n : ℕ) → count_by (λ k. b) (range_with_len a n) ≡ cond b n 0
count-always true a zero = refl
count-always false a zero = refl
count-always true a (suc n) =
    omega (arith, sum_by-cons (λ (y : ℕ). 1) a (range_with_len (a + 1) n), count-always true (a + 1) n)
count-always false a (suc n) =
    omega (arith, sum_by-cons (λ (y : ℕ). 0) a (range_with_len (a + 1) n), count-always false (a + 1) n)

-- If this much stands before, the numbers that end at those that pass are as many as those weigh.
count-inside : (g : ℕ → ℕ) (p : ℕ → Bool) (us : List ℕ) (before : ℕ)
    → count_by (λ n. p (slice_index us (first_above n (running_sums before (map g us)))))
    (range_with_len before (sum (map g us))) ≡ sum_by g (filter p us)
count-inside g p [] before = refl
count-inside g p (u ∷ us) before =
    let total : sum (map g (u ∷ us)) ≡ g u + sum (map g us) = sum_by-cons (λ x. x) (g u) (map g us) in
    let first : count_by at (range_with_len before (g u)) ≡ cond (p u) (g u) 0 =
    count-same at (λ n. p u) before (g u) (λ n low high.
    ap (λ b. p (slice_index (u ∷ us) (if b then 0 else suc (later n)))) (lt-ltb n (before + g u) high))
    ∙ count-always (p u) before (g u) in
    let others : count_by at (range_with_len (before + g u) (sum (map g us))) ≡ sum_by g (filter p us) =
    count-same at (λ n. p (slice_index us (later n))) (before + g u) (sum (map g us))
    (λ n low high. ap (λ b. p (slice_index (u ∷ us) (if b then 0 else suc (later n)))) (le-ltb n (before + g u) low))
    ∙ count-inside g p us (before + g u) in
    let both : sum_by g (filter p (u ∷ us)) ≡ cond (p u) (g u) 0 + sum_by g (filter p us) =
    sum-filter g p (u ∷ us) ∙ sum_by-cons (λ y. cond (p y) (g y) 0) u us
    ∙ ap (λ n. cond (p u) (g u) 0 + n) (sym (sum-filter g p us)) in
    ap (λ n. count_by at (range_with_len before n)) total
    ∙ ap (count_by at) (range-append before (g u) (sum (map g us)))
    ∙ sum_by-append (λ y. cond (at y) 1 0) (range_with_len before (g u))
    (range_with_len (before + g u) (sum (map g us)))
    ∙ omega (arith, first, others, both)
  where
    later : ℕ → ℕ
    later n = first_above n (running_sums (before + g u) (map g us))

    at : ℕ → Bool
    at n = p (slice_index (u ∷ us) (first_above n (running_sums before (map g (u ∷ us)))))

-- ---- draws

-- who wins with a number below the sum
winner-some : (ws : List ℕ) (d : ℕ) → d < sum ws
    → winner ws d ≡ Some (record { place = first_above d (running_sums 0 ws); number = d; total = sum ws })
winner-some ws d low =
    let some : (sum ws == 0) ≡ false = ne_eqb (sum ws) 0 (λ none. absurd (omega (arith, low, none))) in
    rw (some, mod-eq_of_lt low) refl

won-inside : (s : State) (p : ℕ) (inside : Node → Bool) (d : ℕ) → d < total_weight s
    → is_won_inside inside (draw s p d).reply ≡ inside (Thread (slice_index (ready_threads s.records)
    (first_above d (running_sums 0 (map (weight_of s) (ready_threads s.records))))))
won-inside s p inside d low = rw (winner-some (map (weight_of s) (ready_threads s.records)) d low) refl

pub wins-weigh : (s : State) (p : ℕ) (inside : Node → Bool) → wins_inside s p inside ≡ weight_inside s inside
wins-weigh s p inside =
    let us = ready_threads s.records in
    count-same (λ d. is_won_inside inside (draw s p d).reply)
    (λ d. inside (Thread (slice_index us (first_above d (running_sums 0 (map (weight_of s) us))))))
    0 (total_weight s) (λ d low high. won-inside s p inside d (omega (arith, high)))
    ∙ count-inside (weight_of s) (λ t. inside (Thread t)) us 0
