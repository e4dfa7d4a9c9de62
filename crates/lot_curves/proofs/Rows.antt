-- The sums of threads' ticks and draws, one stretch after another.
use Rattle.lot_curves.proofs.Common.{Curves, List, Measure, Option, Stretch, ap, arith, cond, ext_get_or, get_or, get_or-map-range_with_len, had_in, length, length-map-range_with_len, map, part_in, range_with_len, row_at, shown_at, stretches_of, sum-filter, sum_by_more, sym, take, ℕ, ◌+◌, ◌<◌, ◌==◌, ◌∙◌, ◌≡◌}

-- what a thread has had of one stretch more
pub had-more : (measure : Measure) (window : Option ℕ) (tick t : ℕ) (xs : List Stretch) (i : ℕ) (d : Stretch)
    → i < length xs
    → had_in measure window tick (stretches_of t (take (i + 1) xs)) ≡ had_in measure window tick
    (stretches_of t (take i xs)) + cond ((get_or xs i d).thread == t) (part_in measure window tick (get_or xs i d)) 0
had-more measure window tick t xs i d below =
    let one = λ (s : Stretch). cond (s.thread == t) (part_in measure window tick s) 0 in
    let whole = sum-filter (part_in measure window tick) (λ s. s.thread == t) in
    whole (take (i + 1) xs) ∙ sum_by_more one xs i d below ∙ ap (λ n. n + one (get_or xs i d)) (sym (whole (take i xs)))

-- a row that has what each thread has had, place by place
pub row-is : (measure : Measure) (curves : Curves) (tick : ℕ) (row : List ℕ) → length row ≡ length curves.names
    → ((k : ℕ) → k < length row → get_or row k 0
    ≡ had_in measure curves.window tick (stretches_of (k + 1) curves.stretches)) → row ≡ row_at measure curves tick
row-is measure curves tick row places had =
    let n = length curves.names in
    let shown = shown_at measure curves tick in
    ext_get_or 0 row (map shown (range_with_len 1 n)) (places ∙ sym (length-map-range_with_len shown 1 n))
    (λ k below. had k below
    ∙ sym (get_or-map-range_with_len shown 1 n k (k + 1) 0 (omega (arith, below, places)) (omega arith)))
