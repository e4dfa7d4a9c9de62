-- Sums of counts.
use Rattle.lot_value.proofs.Common.{ap, arith, counted_up, min, refl, suc, zero, ℕ, ◌+◌, ◌-◌, ◌<◌, ◌^◌, ◌≡◌}

counted-some : (count more : ℕ) → 0 < more → counted_up count more ≡ min (count + more) (2 ^ 64 - 1)
counted-some count zero some = absurd (omega arith)
counted-some count (suc more) some = refl

-- a count that goes on
pub counted-more : (count first second : ℕ)
    → counted_up (counted_up count first) second ≡ counted_up count (first + second)
counted-more count zero second = let same : second ≡ zero + second = omega arith in ap (counted_up count) same
counted-more count (suc first) zero = let same : suc first ≡ suc first + zero = omega arith in
    ap (counted_up count) same
counted-more count (suc first) (suc second) = omega (arith, counted-some count (suc first + suc second) (omega arith))
