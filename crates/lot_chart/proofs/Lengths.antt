-- Lengths of texts in parts.
use Rattle.lot_chart.proofs.Common.{All, List, arith, flat_map, length, length-append, length-flat_map, subst, sum_by-le, sym, ℕ, ◌*◌, ◌++◌, ◌+◌, ◌≤◌}

-- two parts, one after the other
pub both : (m n : ℕ) (xs ys : List ℕ) → length xs ≤ m → length ys ≤ n → length (xs ++ ys) ≤ m + n
both m n xs ys one two = omega (arith, length-append xs ys, one, two)

-- a part for each of a list
pub all-short : {X : Type 0} (f : X → List ℕ) (m : ℕ) (xs : List X) → All (λ x. length (f x) ≤ m) xs
    → length (flat_map f xs) ≤ length xs * m
all-short f m xs all =
    subst (λ n. n ≤ length xs * m) (sym (length-flat_map f xs)) (sum_by-le (λ x. length (f x)) m xs all)
