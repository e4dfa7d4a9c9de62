-- The sum of the first weights of a list, before and after a write.
use Rattle.lot_tree.proofs.Common.{List, ap, arith, get_or, length, set, suc, sum, sum_by-cons, sum_by-take-le, sum_by_more, take, take-set-le, take-take, zero, ℕ, [], ◌+◌, ◌<◌, ◌∷◌, ◌≡◌, ◌≤◌}

-- more weights have no smaller sum
pub sum-take-le : (ws : List ℕ) (m n : ℕ) → m ≤ n → sum (take m ws) ≤ sum (take n ws)
sum-take-le ws m n within = rw take-take at (sum_by-take-le (λ x. x) (take n ws) m)

-- a write past the first n weights does not change their sum
pub sum-take-set_past : (ws : List ℕ) (i w n : ℕ) → n ≤ i → sum (take n (set ws i w)) ≡ sum (take n ws)
sum-take-set_past ws i w n past = ap sum (take-set-le n ws i w past)

-- a write among the first n weights puts one weight for another in their sum
pub sum-take-set : (ws : List ℕ) (i w n : ℕ) → i < length ws → i < n
    → sum (take n (set ws i w)) + get_or ws i 0 ≡ sum (take n ws) + w
sum-take-set [] i w n place among = omega arith
sum-take-set (x ∷ ws) i w zero place among = omega arith
sum-take-set (x ∷ ws) zero w (suc n) place among =
    omega (arith, sum_by-cons (λ y. y) w (take n ws), sum_by-cons (λ y. y) x (take n ws))
sum-take-set (x ∷ ws) (suc i) w (suc n) place among =
    omega (arith, sum-take-set ws i w n (omega arith) (omega arith), sum_by-cons (λ y. y) x (take n (set ws i w)), sum_by-cons (λ y. y) x (take n ws))

-- a weight among those from m on and before n is within the difference of the two sums
pub weight-le : (ws : List ℕ) (i m n : ℕ) → i < length ws → m ≤ i → i < n
    → sum (take m ws) + get_or ws i 0 ≤ sum (take n ws)
weight-le ws i m n place after before =
    omega (arith, sum-take-le ws m i after, sum-take-le ws (i + 1) n (omega arith), sum_by_more (λ y. y) ws i 0 place)
