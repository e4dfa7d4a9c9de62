-- Text written in parts.
use Rattle.lot_print.proofs.Common.{Appends, Begins, List, Option, ap, append_assoc, appends-both, begins-after, begins-front, subst, sym, ℕ, [], ◌++◌, ◌∙◌, ◌≡◌}

-- a line of a text, a number and what follows
pub line-is : (none first line text number rest : List ℕ) → none ≡ [] → first ≡ none ++ (text ++ number)
    → line ≡ first ++ rest → line ≡ text ++ (number ++ rest)
line-is none first line text number rest begun one two = two
    ∙ ap (λ xs. xs ++ rest) (one ∙ ap (λ xs. xs ++ (text ++ number)) begun) ∙ append_assoc text number rest

-- ---- parts one after another

module _ (old mid new : Option (List ℕ)) (done part left rest whole : List ℕ) (is : done ++ rest ≡ whole)
    (next : rest ≡ part ++ left) (one : Appends old mid done) where
  parts-whole : (done ++ part) ++ left ≡ whole
  parts-whole = append_assoc done part left ∙ ap (λ xs. done ++ xs) (sym next) ∙ is

  -- one part more is written
  pub parts-more : Appends mid new part → (x : List ℕ) × (x ++ left ≡ whole) × Appends old new x
  parts-more two = (done ++ part, parts-whole, appends-both old mid new done part one two)

  -- a beginning of the next part is one of all
  pub parts-stop : Begins mid new part → Begins old new whole
  parts-stop two = subst (Begins old new) parts-whole
      (begins-front old new (done ++ part) left (begins-after old mid new done part one two))
