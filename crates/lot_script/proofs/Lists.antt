-- Lists, their prefixes and the rests after them.
use Rattle.lot_script.proofs.Common.{All, Bool, Item, List, None, Some, Work, accumulated, ap, arith, cond, drop, drop-append-le, drop-drop, drop-replicate, false, fold, fold-append, get_or_from_slice_get, is_mark, length, length-replicate, prefix_len, refl, replicate, slice_get, slice_get_within, subst, suc, sym, take, take-add, take-append-le, take-replicate, true, zero, ℕ, [], ◌++◌, ◌+◌, ◌-◌, ◌∙◌, ◌∷◌, ◌≡◌, ◌≤◌}

-- past the end there is no element
pub slice_get_none : {X : Type 0} (xs : List X) (i : ℕ) → slice_get xs i ≡ None → length xs ≤ i
slice_get_none [] i is = omega arith
slice_get_none (x ∷ xs) zero is = cc
slice_get_none (x ∷ xs) (suc i) is = omega (arith, slice_get_none xs i is)

-- what comes after the first elements of the rest
pub drop-add : {X : Type 0} (j k : ℕ) (xs : List X) → drop (j + k) xs ≡ drop k (drop j xs)
drop-add j k xs = sym (drop-drop k j xs)

-- a fold of the first elements, and then of the next ones
pub fold-take-add : {A B : Type 0} (f : B → A → B) (a : B) (j k : ℕ) (xs : List A)
    → fold f a (take (j + k) xs) ≡ fold f (fold f a (take j xs)) (take k (drop j xs))
fold-take-add f a j k xs = rw take-add (fold-append f a (take j xs) (take k (drop j xs)))

-- those that pass at the front, and then those that pass after them
pub prefix_len_then : {X : Type 0} (p : X → Bool) (j k : ℕ) (xs : List X) → j ≤ prefix_len p xs
    → k ≤ prefix_len p (drop j xs) → j + k ≤ prefix_len p xs
prefix_len_then p zero k xs first then = omega (arith, then)
prefix_len_then p (suc j) k [] first then = absurd (omega (arith, first))
prefix_len_then {X} p (suc j) k (x ∷ xs) first then = at (λ fewer. prefix_len_then p j k xs fewer then) (p x) first
  where
    at : (j ≤ prefix_len p xs → j + k ≤ prefix_len p xs) → (e : Bool) → suc j ≤ cond e (1 + prefix_len p xs) 0
        → suc j + k ≤ cond e (1 + prefix_len p xs) 0
    at others true h = let fewer : j ≤ prefix_len p xs = omega (arith, h) in omega (arith, others fewer)
    at others false h = absurd (omega (arith, h))

-- the first that doesn't pass ends those that pass at the front
pub prefix_len-stops : {X : Type 0} (p : X → Bool) (k : ℕ) (xs : List X) (x : X) (ys : List X) → drop k xs ≡ x ∷ ys
    → p x ≡ false → k ≤ prefix_len p xs → prefix_len p xs ≡ k
prefix_len-stops p zero [] x ys is stops some = refl
prefix_len-stops p zero (z ∷ xs) x ys is stops some = let same : z ≡ x = cc in rw (same, stops) refl
prefix_len-stops p (suc k) [] x ys is stops some = absurd (omega (arith, some))
prefix_len-stops p (suc k) (z ∷ xs) x ys is stops some =
    at (λ fewer. prefix_len-stops p k xs x ys is stops fewer) (p z) some
  where
    at : (k ≤ prefix_len p xs → prefix_len p xs ≡ k) → (e : Bool) → suc k ≤ cond e (1 + prefix_len p xs) 0
        → cond e (1 + prefix_len p xs) 0 ≡ suc k
    at others true h = let fewer : k ≤ prefix_len p xs = omega (arith, h) in omega (arith, others fewer)
    at others false h = absurd (omega (arith, h))

-- the element at a place is the first from there on
pub slice_get-drop : {X : Type 0} (k : ℕ) (xs : List X) (x : X) (ys : List X) → drop k xs ≡ x ∷ ys
    → slice_get xs k ≡ Some x
slice_get-drop zero [] x ys is = cc
slice_get-drop zero (z ∷ xs) x ys is = let same : z ≡ x = cc in rw same refl
slice_get-drop (suc k) [] x ys is = cc
slice_get-drop (suc k) (z ∷ xs) x ys is = slice_get-drop k xs x ys is

-- an element is one that passes, if all do
pub All-element : {X : Type 0} (P : X → Type 0) (xs : List X) (i : ℕ) (x : X) → All P xs → slice_get xs i ≡ Some x → P x
All-element P xs i x all is = subst P (get_or_from_slice_get xs i x x is) (all i x (slice_get_within xs i x is))

-- an element, and what comes after it
pub drop-element : {X : Type 0} (xs : List X) (i : ℕ) (x : X) → slice_get xs i ≡ Some x
    → drop i xs ≡ x ∷ drop (suc i) xs
drop-element [] i x is = cc
drop-element (y ∷ xs) zero x is = let same : y ≡ x = cc in rw same refl
drop-element (y ∷ xs) (suc i) x is = drop-element xs i x is

-- one element more
pub take-more : {X : Type 0} (xs : List X) (i : ℕ) (x : X) → slice_get xs i ≡ Some x
    → take (suc i) xs ≡ take i xs ++ x ∷ []
take-more [] i x is = cc
take-more (y ∷ xs) zero x is = let same : y ≡ x = cc in rw same refl
take-more (y ∷ xs) (suc i) x is = ap (λ zs. y ∷ zs) (take-more xs i x is)

-- the first element after some
pub slice_get-after : {X : Type 0} (k : ℕ) (xs : List X) → slice_get (drop k xs) 0 ≡ slice_get xs k
slice_get-after zero xs = refl
slice_get-after (suc k) [] = refl
slice_get-after (suc k) (x ∷ xs) = slice_get-after k xs

-- ---- marks of work

-- work at the front is all marks
pub marks_front : (m : ℕ) (xs : List Item) → m ≤ prefix_len is_mark (replicate m Work ++ xs)
marks_front zero xs = omega arith
marks_front (suc m) xs = omega (arith, marks_front m xs)

-- work leaves the accumulator as it is
pub fold-work : (k a : ℕ) → fold accumulated a (replicate k Work) ≡ a
fold-work zero a = refl
fold-work (suc k) a = fold-work k a

-- the first marks of the work at the front
pub take-work : (k m : ℕ) (xs : List Item) → k ≤ m → take k (replicate m Work ++ xs) ≡ replicate k Work
take-work k m xs h =
    let within : k ≤ length (replicate m Work) = rw length-replicate h in
    take-append-le k (replicate m Work) xs within ∙ take-replicate k m Work h

-- what comes after the first marks of the work at the front
pub drop-work : (k m : ℕ) (xs : List Item) → k ≤ m → drop k (replicate m Work ++ xs) ≡ replicate (m - k) Work ++ xs
drop-work k m xs h =
    let within : k ≤ length (replicate m Work) = rw length-replicate h in
    drop-append-le k (replicate m Work) xs within ∙ ap (λ ws. ws ++ xs) (drop-replicate k m Work)
