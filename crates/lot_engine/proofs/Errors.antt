-- The remaining goals of an error, and the meaning of a failed test.
use Rattle.lot_engine.proofs.Common.{Err, IfOk, IsErr, Ok, Result, arith, suc, zero, ℕ, ◌<◌, ◌≤◌}

-- nothing, of what is said of a success
pub if-ok-none : {A E : Type 0} (r : Result A E) (P : A → Type 0) → IsErr r → IfOk r P
if-ok-none (Ok x) P is = cc
if-ok-none (Err e) P is = tt

pub below : (a b : ℕ) → (b ≤ a → ⊥) → a < b
below a zero never = absurd (never (omega arith))
below zero (suc b) never = omega arith
below (suc a) (suc b) never =
    let rest = below a b (λ most. never (omega (arith, most))) in omega (arith, rest)
