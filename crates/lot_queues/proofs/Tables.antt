-- Tables: lists in which the element with number k is f k.
use Rattle.lot_queues.proofs.Common.{List, None, Some, ap, arith, at_number, at_number-suc, cases_eq, get_or, get_or-map-range_with_len, get_or-replicate, get_or-set_other, get_or-set_same, inl, inr, length, length-map-range_with_len, length-replicate, length-set, map, map-range_with_len_more, range_with_len, replicate, same_lists, set_number, slice_get-get_or, slice_get_past, suc, sym, zero, ℕ, [], ◌++◌, ◌+◌, ◌-◌, ◌<◌, ◌∙◌, ◌∷◌, ◌≡◌, ◌≤◌}

module _ {X : Type 0} where
  abbrev pub table : (ℕ → X) → ℕ → List X
  table f n = map f (range_with_len 1 n)

  pub table-length : (f : ℕ → X) (n : ℕ) → length (table f n) ≡ n
  table-length f n = length-map-range_with_len f 1 n

  pub table-at : (f : ℕ → X) (n k : ℕ) → 0 < k → k ≤ n → at_number (table f n) k ≡ Some (f k)
  table-at f n zero first last = absurd (omega (arith, first))
  table-at f n (suc i) first last =
      at_number-suc (table f n) i ∙ slice_get-get_or (table f n) i (f (suc i)) (omega (arith, table-length f n, last))
      ∙ ap Some (get_or-map-range_with_len f 1 n i (suc i) (f (suc i)) (omega (arith, last)) (omega arith))

  pub table-past : (f : ℕ → X) (n k : ℕ) → n < k → at_number (table f n) k ≡ None
  table-past f n zero past = absurd (omega (arith, past))
  table-past f n (suc i) past = at_number-suc (table f n) i
      ∙ slice_get_past (table f n) i (omega (arith, table-length f n, past))

  pub table-same : (f g : ℕ → X) (n : ℕ) → ((k : ℕ) → 0 < k → k ≤ n → g k ≡ f k) → table g n ≡ table f n
  table-same f g n same = same_lists (table g n) (table f n) (table-length g n ∙ sym (table-length f n)) (λ i d h.
      let within : i < n = omega (arith, h, table-length g n) in
      get_or-map-range_with_len g 1 n i (suc i) d within (omega arith) ∙ same (suc i) (omega arith)
      (omega (arith, within)) ∙ sym (get_or-map-range_with_len f 1 n i (suc i) d within (omega arith)))

  pub table-set : (f g : ℕ → X) (n k : ℕ) → 0 < k → k ≤ n → ((j : ℕ) → 0 < j → j ≤ n → ¬ (j ≡ k) → g j ≡ f j)
      → table g n ≡ set_number (table f n) k (g k)
  table-set f g n k first last same =
      same_lists (table g n) (set_number (table f n) k (g k))
      (table-length g n ∙ sym (length-set (table f n) (k - 1) (g k) ∙ table-length f n)) (λ i d h.
      let within : i < n = omega (arith, h, table-length g n) in
      get_or-map-range_with_len g 1 n i (suc i) d within (omega arith) ∙ elim (cases_eq i (k - 1)) [
        | inl at ↦
            let is : suc i ≡ k = omega (arith, at, first) in
            ap g is ∙ sym (get_or-set_same (table f n) (k - 1) (g k) d (omega (arith, first, last, table-length f n)))
            ∙ ap (λ j. get_or (set_number (table f n) k (g k)) j d) (sym at)
        | inr off ↦
            same (suc i) (omega arith) (omega (arith, within)) (λ e. off (omega (arith, e)))
            ∙ sym (get_or-set_other (table f n) (k - 1) i (g k) d off
            ∙ get_or-map-range_with_len f 1 n i (suc i) d within (omega arith))
      ])

  pub table-more : (f : ℕ → X) (n : ℕ) → table f (n + 1) ≡ table f n ++ f (n + 1) ∷ []
  table-more f n = map-range_with_len_more f 1 n (n + 1) (omega arith)

  pub table-alike : (f : ℕ → X) (n : ℕ) (x : X) → ((k : ℕ) → 0 < k → k ≤ n → f k ≡ x) → table f n ≡ replicate n x
  table-alike f n x alike =
      same_lists (table f n) (replicate n x) (table-length f n ∙ sym (length-replicate n x)) (λ i d h.
      let within : i < n = omega (arith, h, table-length f n) in
      get_or-map-range_with_len f 1 n i (suc i) d within (omega arith)
      ∙ alike (suc i) (omega arith) (omega (arith, within)) ∙ sym (get_or-replicate n i x d within))
