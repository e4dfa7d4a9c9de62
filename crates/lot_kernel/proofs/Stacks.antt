-- A stack of places, the last item first.
use Rattle.lot_kernel.proofs.Common.{IfNone, List, None, Option, Some, ap, arith, drop, length, length-append, option_to_list, refl, reverse, reverse-append, slice_get, sym, ℕ, [], ◌++◌, ◌∙◌, ◌∷◌, ◌≡◌}

-- what has no length is empty
nothing : (xs : List ℕ) → length xs ≡ 0 → xs ≡ []
nothing [] none = refl
nothing (x ∷ xs) none = absurd (omega (arith, none))

-- one more comes first
pub pushed-first : (xs : List ℕ) (x : ℕ) → reverse (xs ++ x ∷ []) ≡ x ∷ reverse xs
pushed-first xs x = reverse-append xs (x ∷ [])

-- nothing leaves, if there is none
pub popped-none : (old new : List ℕ) (o : Option ℕ) {P : Type 0} → (reverse new ≡ reverse old → P)
    → old ≡ new ++ option_to_list o → (o ≡ None → length old ≡ 0) → IfNone o P
popped-none old new None follows is none =
    let empty : old ≡ [] = nothing old (none refl) in
    let left : new ≡ [] = nothing new (omega (arith, ap (length {A = ℕ}) is, none refl, length-append new [])) in
    follows (ap reverse (left ∙ sym empty))
popped-none old new (Some x) follows is none = tt

-- the last item leaves, if there is one
pub popped : (old new : List ℕ) (o : Option ℕ) → old ≡ new ++ option_to_list o → (o ≡ None → length old ≡ 0)
    → (o ≡ slice_get (reverse old) 0) × (reverse new ≡ drop 1 (reverse old))
popped old new None is none =
    let empty : old ≡ [] = nothing old (none refl) in
    let left : new ≡ [] = nothing new (omega (arith, ap (length {A = ℕ}) is, none refl, length-append new [])) in
    (sym (ap (λ xs. slice_get (reverse xs) 0) empty), ap reverse left ∙ sym (ap (λ xs. drop 1 (reverse xs)) empty))
popped old new (Some x) is none =
    let first : reverse old ≡ x ∷ reverse new = ap reverse is ∙ pushed-first new x in
    (sym (ap (λ xs. slice_get xs 0) first), sym (ap (drop 1) first))
