-- Copies of loops, the outermost or the innermost first.
use Rattle.lot_script.proofs.Common.{AreCopies, IsCopy, List, OpenLoop, Some, ap, append_assoc, arith, drop, get_or, length, length-drop, length-reverse, refl, reverse, reverse-append, slice_get, slice_get-get_or, suc, sym, take, take_all, zero, ℕ, [], ◌++◌, ◌+◌, ◌-◌, ◌<◌, ◌∙◌, ◌∷◌, ◌≡◌, ◌≤◌}
use Rattle.lot_script.proofs.Lists.{take-more}

-- one more before both
pub copies-more : (xs ys : List OpenLoop) (x y : OpenLoop) → AreCopies (reverse xs) (reverse ys) → IsCopy x y
    → AreCopies (reverse (xs ++ x ∷ [])) (reverse (ys ++ y ∷ []))
copies-more xs ys x y copies copy = rw (reverse-append xs (x ∷ []), reverse-append ys (y ∷ [])) (copy, copies)

-- those before two that aren't copies of each other
copies-after : (xs ys : List OpenLoop) (x y : OpenLoop) (front others : List OpenLoop) → length front ≡ length others
    → AreCopies (front ++ x ∷ xs) (others ++ y ∷ ys) → IsCopy x y
copies-after xs ys x y [] [] same copies = copies.0
copies-after xs ys x y [] (o ∷ others) same copies = absurd (omega (arith, same))
copies-after xs ys x y (f ∷ front) [] same copies = absurd (omega (arith, same))
copies-after xs ys x y (f ∷ front) (o ∷ others) same copies =
    copies-after xs ys x y front others (omega (arith, same)) copies.1

pub copies-length : (loops firsts : List OpenLoop) → AreCopies loops firsts → length loops ≡ length firsts
copies-length [] [] copies = refl
copies-length [] (f ∷ firsts) copies = absurd copies
copies-length (o ∷ loops) [] copies = absurd copies
copies-length (o ∷ loops) (f ∷ firsts) copies = ap suc (copies-length loops firsts copies.1)

-- as many, if they are copies
pub copies-as_many : (loops firsts : List OpenLoop) → AreCopies (reverse loops) (reverse firsts)
    → length loops ≡ length firsts
copies-as_many loops firsts copies = sym (length-reverse loops) ∙ copies-length (reverse loops) (reverse firsts) copies
    ∙ length-reverse firsts

-- a list in turn, from an element on
reverse-around : (xs : List OpenLoop) (i : ℕ) (x : OpenLoop) → xs ≡ take i xs ++ x ∷ drop (suc i) xs
    → reverse xs ≡ reverse (drop (suc i) xs) ++ x ∷ reverse (take i xs)
reverse-around xs i x is = ap reverse is ∙ reverse-append (take i xs) (x ∷ drop (suc i) xs)
    ∙ ap (λ zs. zs ++ reverse (take i xs)) (reverse-append (x ∷ []) (drop (suc i) xs))
    ∙ append_assoc (reverse (drop (suc i) xs)) (x ∷ []) (reverse (take i xs))

around : {X : Type 0} (xs : List X) (i : ℕ) (x : X) → slice_get xs i ≡ Some x → xs ≡ take i xs ++ x ∷ drop (suc i) xs
around [] i x is = cc
around (y ∷ xs) zero x is = let same : y ≡ x = cc in ap (λ z. z ∷ xs) same
around (y ∷ xs) (suc i) x is = ap (λ zs. y ∷ zs) (around xs i x is)

-- each is a copy of the one at its place
pub copies-element : (xs ys : List OpenLoop) (i : ℕ) (x y : OpenLoop) → AreCopies (reverse xs) (reverse ys)
    → slice_get xs i ≡ Some x → slice_get ys i ≡ Some y → IsCopy x y
copies-element xs ys i x y copies first second =
    let count : length xs ≡ length ys = copies-as_many xs ys copies in
    let following : length (reverse (drop (suc i) xs)) ≡ length (reverse (drop (suc i) ys)) =
    length-reverse (drop (suc i) xs) ∙ length-drop (suc i) xs ∙ ap (λ n. n - suc i) count ∙ sym (length-drop (suc i) ys)
    ∙ sym (length-reverse (drop (suc i) ys)) in
    copies-after (reverse (take i xs)) (reverse (take i ys)) x y (reverse (drop (suc i) xs))
    (reverse (drop (suc i) ys)) following
    (rw (reverse-around xs i x (around xs i x first), reverse-around ys i y (around ys i y second)) at copies)

-- the copies so far, and one more
pub copies-next : (xs ys : List OpenLoop) (i : ℕ) (d : OpenLoop) → AreCopies (reverse (take i xs)) (reverse (take i ys))
    → i < length xs → i < length ys
    → IsCopy (get_or xs i d) (get_or ys i d) → AreCopies (reverse (take (i + 1) xs)) (reverse (take (i + 1) ys))
copies-next xs ys i d copies first second copy =
    let next : i + 1 ≡ suc i = omega arith in
    rw (next, take-more xs i (get_or xs i d) (slice_get-get_or xs i d first), take-more ys i (get_or ys i d) (slice_get-get_or ys i d second))
    (copies-more (take i xs) (take i ys) (get_or xs i d) (get_or ys i d) copies copy)

-- if one isn't a copy, they aren't
pub copies-there : (xs ys : List OpenLoop) (i : ℕ) (d : OpenLoop) → i < length xs → i < length ys
    → AreCopies (reverse xs) (reverse ys) → IsCopy (get_or xs i d) (get_or ys i d)
copies-there xs ys i d first second copies = copies-element xs ys i (get_or xs i d) (get_or ys i d) copies
    (slice_get-get_or xs i d first) (slice_get-get_or ys i d second)

-- all of them
pub copies-all : (xs ys : List OpenLoop) (i : ℕ) → length xs ≤ i → length xs ≡ length ys
    → AreCopies (reverse (take i xs)) (reverse (take i ys)) → AreCopies (reverse xs) (reverse ys)
copies-all xs ys i past same copies = rw (take_all i xs past, take_all i ys (omega (arith, past, same))) at copies
