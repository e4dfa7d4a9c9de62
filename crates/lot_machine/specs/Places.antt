-- The places of a table that keeps the gaps of removed elements.
use Rattle.std.specs.Prelude.{ℕ, Bool, true, false, List, [], ◌∷◌, ◌++◌, length, slice_set}

-- whether no place is free
abbrev pub is_none_free : List ℕ → Bool
is_none_free [] = true
is_none_free (place ∷ free) = false

-- the place of one more element: the first free one, or the end if none is free
abbrev pub next_place : {A : Type 0} → List A → List ℕ → ℕ
next_place xs [] = length xs
next_place xs (place ∷ free) = place

-- the table with one more element
abbrev pub placed : {A : Type 0} → List A → List ℕ → A → List A
placed xs [] x = xs ++ x ∷ []
placed xs (place ∷ free) x = slice_set xs place x
