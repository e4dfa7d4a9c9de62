-- Lines on a page before they are written.
use Rattle.lot_print.proofs.Common.{Appends, Begins, IsPut, List, Option, ap, append-nil, append_assoc, appends-both, begins-after, begins-front, subst, sym, ℕ, [], ◌++◌, ◌∙◌, ◌≡◌}

-- if nothing waited before, and what waits is written, all is
pub put-all : (old mid new : Option (List ℕ)) (waits text : List ℕ) → IsPut old mid [] waits text
    → Appends mid new waits → Appends old new text
put-all old mid new waits text one two =
    subst (Appends old new) (sym one.1) (appends-both old mid new one.0 waits one.2 two)

-- and a beginning of what waits is one of all
pub put-begun : (old mid new : Option (List ℕ)) (waits text : List ℕ) → IsPut old mid [] waits text
    → Begins mid new waits → Begins old new text
put-begun old mid new waits text one two =
    subst (Begins old new) (sym one.1) (begins-after old mid new one.0 waits one.2 two)

module _ (old mid new : Option (List ℕ)) (before waits after text more : List ℕ)
    (one : IsPut old mid before waits text) where
  all : before ++ (text ++ more) ≡ one.0 ++ (waits ++ more)
  all = sym (append_assoc before text more) ∙ ap (λ xs. xs ++ more) one.1 ∙ append_assoc one.0 waits more

  -- one text after another
  pub puts-both : IsPut mid new waits after more → IsPut old new before after (text ++ more)
  puts-both two =
      (one.0 ++ two.0, all ∙ ap (λ xs. one.0 ++ xs) two.1 ∙ sym (append_assoc one.0 two.0 after), appends-both old mid new one.0 two.0 one.2 two.2)

  -- a beginning of what waits and then the next text is one of all
  pub puts-stop : Begins mid new (waits ++ more) → Begins old new (before ++ (text ++ more))
  puts-stop two = subst (Begins old new) (sym all) (begins-after old mid new one.0 (waits ++ more) one.2 two)

-- a beginning of what waited is one of that and the text
pub put-stop : (old new : Option (List ℕ)) (before text : List ℕ) → Begins old new (before ++ [])
    → Begins old new (before ++ text)
put-stop old new before text one =
    subst (λ xs. Begins old new (xs ++ text)) (append-nil before) (begins-front old new (before ++ []) text one)

-- a line after those that wait, once the page has room for it
pub put-line : (old new : Option (List ℕ)) (before waits after text : List ℕ) → IsPut old new before waits []
    → after ≡ waits ++ text → IsPut old new before after text
put-line old new before waits after text one is =
    (one.0, ap (λ xs. xs ++ text) (sym (append-nil before) ∙ one.1) ∙ append_assoc one.0 waits text ∙ ap (λ xs. one.0 ++ xs) (sym is), one.2)
