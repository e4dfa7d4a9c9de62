-- Lines of lots and of loans written one by one.
use Rattle.lot_explain.proofs.Common.{Appends, Begins, LineStyle, List, Lot, Option, Won, ap, append-nil, append_assoc, appends-both, arith, begins-after, begins-front, drop, flat_map, flat_map-append, get_or, length, lot_diagnostics, lot_line, refl, subst, sum_by, sum_by-append, sum_by-cons, sym, take, take-append-drop, take_more, total_of, ℕ, [], ◌++◌, ◌+◌, ◌<◌, ◌∙◌, ◌∷◌, ◌≡◌}

module _ (style : LineStyle) (unit actor : ℕ) (won : Won) where
  pub lines-both : (first : ℕ) (xs ys : List Lot) → lot_diagnostics style unit actor won first (xs ++ ys)
      ≡ lot_diagnostics style unit actor won first xs ++ lot_diagnostics style unit actor won (first + total_of xs) ys
  lines-both first [] ys = let e : first ≡ first + 0 = omega arith in
      ap (λ n. lot_diagnostics style unit actor won n ys) e
  lines-both first (x ∷ xs) ys =
      let e : first + x.weight + total_of xs ≡ first + total_of (x ∷ xs) =
      omega (arith, sum_by-cons (λ (lot : Lot). lot.weight) x xs) in
      let line = lot_line style unit actor won.lottery won.winner first x in
      ap (λ ts. line ++ ts) (lines-both (first + x.weight) xs ys)
      ∙ sym (append_assoc line (lot_diagnostics style unit actor won (first + x.weight) xs)
      (lot_diagnostics style unit actor won (first + x.weight + total_of xs) ys))
      ∙ ap (λ n. (line ++ lot_diagnostics style unit actor won (first + x.weight) xs)
      ++ lot_diagnostics style unit actor won n ys) e

  module _ (lots : List Lot) (n : ℕ) (d x : Lot) (below : n < length lots) (is : x ≡ get_or lots n d) (first : ℕ)
      (sums : first ≡ total_of (take n lots)) (old mid new : Option (List ℕ))
      (one : Appends old mid (lot_diagnostics style unit actor won 0 (take n lots))) where
    taken : take (n + 1) lots ≡ take n lots ++ x ∷ []
    taken = take_more lots n d below ∙ ap (λ y. take n lots ++ y ∷ []) (sym is)

    lines-here : lot_diagnostics style unit actor won 0 (take (n + 1) lots) ≡ lot_diagnostics style unit actor won 0
        (take n lots) ++ lot_line style unit actor won.lottery won.winner first x
    lines-here =
        let e : 0 + total_of (take n lots) ≡ first = omega (arith, sums) in
        ap (lot_diagnostics style unit actor won 0) taken ∙ lines-both 0 (take n lots) (x ∷ [])
        ∙ ap
        (λ f. lot_diagnostics style unit actor won 0 (take n lots) ++ lot_diagnostics style unit actor won f (x ∷ [])) e
        ∙ ap (λ ts. lot_diagnostics style unit actor won 0 (take n lots) ++ ts)
        (append-nil (lot_line style unit actor won.lottery won.winner first x))

    -- what the lots passed so far weigh together
    pub first-more : first + x.weight ≡ total_of (take (n + 1) lots)
    first-more =
        let weigh : Lot → ℕ = λ lot. lot.weight in
        let none : sum_by weigh [] ≡ 0 = refl in
        omega (arith, sums, ap total_of taken, sum_by-append weigh (take n lots) (x ∷ []), sum_by-cons weigh x [], none)

    -- one line more is written
    pub lines-more : Appends mid new (lot_line style unit actor won.lottery won.winner first x)
        → Appends old new (lot_diagnostics style unit actor won 0 (take (n + 1) lots))
    lines-more two = subst (Appends old new) (sym lines-here) (appends-both old mid new _ _ one two)

    -- a beginning of the next line is one of all
    pub lines-stop : Begins mid new (lot_line style unit actor won.lottery won.winner first x)
        → Begins old new (lot_diagnostics style unit actor won 0 lots)
    lines-stop two =
        let following = lot_diagnostics style unit actor won (0 + total_of (take (n + 1) lots)) (drop (n + 1) lots) in
        let whole : lot_diagnostics style unit actor won 0 (take (n + 1) lots) ++ following
        ≡ lot_diagnostics style unit actor won 0 lots =
        sym (lines-both 0 (take (n + 1) lots) (drop (n + 1) lots))
        ∙ ap (lot_diagnostics style unit actor won 0) (take-append-drop (n + 1) lots) in
        let here = subst (Begins old new) (sym lines-here) (begins-after old mid new (lot_diagnostics style unit actor
        won 0 (take n lots)) (lot_line style unit actor won.lottery won.winner first x) one two) in
        subst (Begins old new) whole
        (begins-front old new (lot_diagnostics style unit actor won 0 (take (n + 1) lots)) following here)

-- ---- texts of each

module _ {A : Type 0} (text : A → List ℕ) (xs : List A) (n : ℕ) (d x : A) (below : n < length xs)
    (is : x ≡ get_or xs n d) (old mid new : Option (List ℕ)) (one : Appends old mid (flat_map text (take n xs))) where
  texts-here : flat_map text (take (n + 1) xs) ≡ flat_map text (take n xs) ++ text x
  texts-here =
      ap (flat_map text) (take_more xs n d below ∙ ap (λ y. take n xs ++ y ∷ []) (sym is))
      ∙ flat_map-append text (take n xs) (x ∷ []) ∙ ap (λ ts. flat_map text (take n xs) ++ ts) (append-nil (text x))

  -- one text more is written
  pub texts-more : Appends mid new (text x) → Appends old new (flat_map text (take (n + 1) xs))
  texts-more two =
      subst (Appends old new) (sym texts-here) (appends-both old mid new (flat_map text (take n xs)) (text x) one two)

  -- a beginning of the next text is one of all
  pub texts-stop : Begins mid new (text x) → Begins old new (flat_map text xs)
  texts-stop two =
      let front = flat_map text (take (n + 1) xs) in
      let following = flat_map text (drop (n + 1) xs) in
      let whole : front ++ following ≡ flat_map text xs = sym (flat_map-append text (take (n + 1) xs) (drop (n + 1) xs))
      ∙ ap (flat_map text) (take-append-drop (n + 1) xs) in
      let here =
      subst (Begins old new) (sym texts-here) (begins-after old mid new (flat_map text (take n xs)) (text x) one two) in
      subst (Begins old new) whole (begins-front old new front following here)
