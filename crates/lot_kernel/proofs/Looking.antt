-- Lookups by number in a table with gaps.
use Rattle.lot_kernel.proofs.Common.{List, None, Option, Some, ap, arith, at_number, at_number-suc, false, get_or, length, ltb-true, nat_lt, nat_tests, refl, slice_get, subst, suc, sym, true, zero, ℕ, [], ◌-◌, ◌<◌, ◌∙◌, ◌∷◌, ◌≡◌, ◌≤◌}

looked-up : {A : Type 0} (xs : List A) (n : ℕ) (x : A) → n < length xs → x ≡ get_or xs n x → slice_get xs n ≡ Some x
looked-up [] n x low is = absurd (omega (arith, low))
looked-up (y ∷ ys) zero x low is = ap Some (sym is)
looked-up (y ∷ ys) (suc n) x low is = looked-up ys n x (omega (arith, low)) is

missed : {A : Type 0} (xs : List A) (n : ℕ) → length xs ≤ n → slice_get xs n ≡ None
missed [] n high = refl
missed (y ∷ ys) zero high = absurd (omega (arith, high))
missed (y ∷ ys) (suc n) high = missed ys n (omega (arith, high))

not-below : (a b : ℕ) → nat_lt a b ≡ false → b ≤ a
not-below a b is = grind (arith, nat_tests)

-- the place of a table has what was read there
pub entry-of : {A : Type 0} (xs ys : List (Option A)) (n : ℕ) (x o : Option A) → xs ≡ ys → true ≡ nat_lt n (length xs)
    → x ≡ get_or xs n x → x ≡ o → slice_get ys n ≡ Some o
entry-of xs ys n x o same low read is =
    subst (λ zs. slice_get zs n ≡ Some o) same (looked-up xs n x (ltb-true n (length xs) (sym low)) read ∙ ap Some is)

pub entry-missing : {A : Type 0} (xs ys : List (Option A)) (n : ℕ) → xs ≡ ys → false ≡ nat_lt n (length xs)
    → slice_get ys n ≡ None
entry-missing xs ys n same high =
    subst (λ zs. slice_get zs n ≡ None) same (missed xs n (not-below n (length xs) (sym high)))

-- the number counts from 1
pub numbered : {A : Type 0} (xs : List A) (t i : ℕ) (o : Option A) → (t ≡ 0 → ⊥) → i ≡ t - 1 → slice_get xs i ≡ o
    → at_number xs t ≡ o
numbered xs zero i o some index is = absurd (some refl)
numbered xs (suc k) i o some index is = let same : k ≡ i = omega (arith, index) in at_number-suc xs k
    ∙ ap (slice_get xs) same ∙ is

-- the place of what has a number
pub number-place : {A : Type 0} (xs : List A) (t i : ℕ) (x : A) → at_number xs t ≡ Some x → i ≡ t - 1
    → (t ≡ suc i) × (slice_get xs i ≡ Some x)
number-place xs zero i x at index = cc
number-place xs (suc k) i x at index = let same : k ≡ i = omega (arith, index) in
    (ap suc same, ap (slice_get xs) (sym same) ∙ sym (at_number-suc xs k) ∙ at)
