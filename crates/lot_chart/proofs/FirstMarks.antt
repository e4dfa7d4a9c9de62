-- The first command in each column, one command after another.
use Rattle.lot_chart.proofs.Common.{Bool, Contains, Curves, List, None, Option, Some, ap, arith, column_of, cond, eq-eqb, ext_get_or, false, find, first_in, first_of, get_or, get_or-map-range_with_len, is_within, length, length-map-range_with_len, map, range_with_len, refl, same_Some, slice_get, slice_get-get_or, slice_get_within, stands_in, suc, sym, take, take_more, true, zero, ℕ, [], ◌&&◌, ◌++◌, ◌+◌, ◌<◌, ◌==◌, ◌∙◌, ◌∷◌, ◌≡◌}
use Rattle.lot_chart.specs.Marks.{marked}

-- the first of one time more
find-more : (p : ℕ → Bool) (times : List ℕ) (time : ℕ)
    → find p (times ++ time ∷ []) ≡ first_of (find p times) (p time) time
find-more p [] time = at (p time)
  where
    at : (b : Bool) → cond b (Some time) None ≡ first_of None b time
    at true = refl
    at false = refl
find-more p (t ∷ times) time = at (p t) (find-more p times time)
  where
    at : (b : Bool) → find p (times ++ time ∷ []) ≡ first_of (find p times) (p time) time
        → cond b (Some t) (find p (times ++ time ∷ [])) ≡ first_of (cond b (Some t) (find p times)) (p time) time
    at true rest = refl
    at false rest = rest

-- the first in a column of one command more
pub first-next : (curves : Curves) (column : ℕ) (times : List ℕ) (i d time : ℕ) (earlier now : Option ℕ)
    → i < length times → time ≡ get_or times i d → earlier ≡ first_in curves (take i times) column
    → now ≡ first_of earlier (stands_in curves column time) time → now ≡ first_in curves (take (i + 1) times) column
first-next curves column times i d time earlier now below at has is =
    is ∙ ap (λ (o : Option ℕ). first_of o (stands_in curves column time) time) has
    ∙ ap (λ t. first_of (first_in curves (take i times) column) (stands_in curves column t) t) at
    ∙ sym (find-more (stands_in curves column) (take i times) (get_or times i d))
    ∙ ap (λ (ts : List ℕ). first_in curves ts column) (sym (take_more times i d below))

-- marks that are the first in their columns, column by column
pub marked-are : (curves : Curves) (marks : List (Option ℕ)) → length marks ≡ 671
    → ((k : ℕ) → k < length marks → get_or marks k None ≡ first_in curves curves.commands k) → marks ≡ marked curves
unfolding marked
marked-are curves marks places firsts =
    let first = first_in curves curves.commands in
    ext_get_or None marks (map first (range_with_len 0 671)) (places ∙ sym (length-map-range_with_len first 0 671))
    (λ k below. firsts k below
    ∙ sym (get_or-map-range_with_len first 0 671 k k None (omega (arith, below, places)) (omega arith)))

-- ---- whose marks there are

find-from : (p : ℕ → Bool) (times : List ℕ) (time : ℕ) → find p times ≡ Some time
    → Contains times time × (p time ≡ true)
find-from p [] time is = cc
find-from p (t ∷ times) time is = at (p t) refl is (find-from p times time)
  where
    at : (b : Bool) → p t ≡ b → cond b (Some t) (find p times) ≡ Some time
        → (find p times ≡ Some time → Contains times time × (p time ≡ true))
        → Contains (t ∷ times) time × (p time ≡ true)
    at true here told others =
        let same : t ≡ time = cc in
        ((0, omega arith, same), ap p (sym same) ∙ here)
    at false other told others =
        let rest = others told in
        ((suc rest.0.0, omega (arith, rest.0.1), rest.0.2), rest.1)

finds : (p : ℕ → Bool) (times : List ℕ) (time k : ℕ) → k < length times → get_or times k time ≡ time → p time ≡ true
    → (first : ℕ) × (find p times ≡ Some first)
finds p [] time k below is here = absurd (omega (arith, below))
finds p (t ∷ times) time k below is here =
    at (p t) refl k below is (λ j within later. finds p times time j within later here)
  where
    at : (b : Bool) → p t ≡ b → (k : ℕ) → k < length (t ∷ times) → get_or (t ∷ times) k time ≡ time
        → ((j : ℕ) → j < length times → get_or times j time ≡ time → (first : ℕ) × (find p times ≡ Some first))
        → (first : ℕ) × (cond b (Some t) (find p times) ≡ Some first)
    at true same k below is others = (t, refl)
    at false other zero below is others = absurd (let wrong : false ≡ true = sym other ∙ ap p is ∙ here in cc)
    at false other (suc k) below is others = others k (omega (arith, below)) is

module _ (curves : Curves) where
  abbrev first : ℕ → Option ℕ
  first = first_in curves curves.commands

  marked-at : (column : ℕ) → column < 671 → slice_get (marked curves) column ≡ Some (first column)
  unfolding marked
  marked-at column below =
      slice_get-get_or (map first (range_with_len 0 671)) column None
      (omega (arith, below, length-map-range_with_len first 0 671))
      ∙ ap (λ (o : Option ℕ). Some o) (get_or-map-range_with_len first 0 671 column column None below (omega arith))

  marked-length : length (marked curves) ≡ 671
  unfolding marked
  marked-length = length-map-range_with_len first 0 671

  -- a mark is a command's, which stands in the column
  pub mark-of : (column time : ℕ) → slice_get (marked curves) column ≡ Some (Some time)
      → Contains curves.commands time × (stands_in curves column time ≡ true)
  mark-of column time is =
      let below : column < 671 = omega (arith, slice_get_within (marked curves) column (Some time) is, marked-length) in
      let told : first column ≡ Some time = same_Some (first column) (Some time) (sym (marked-at column below) ∙ is) in
      find-from (stands_in curves column) curves.commands time told

  -- each command in the picture stands in a column with a mark
  pub mark-for : (time : ℕ) → Contains curves.commands time → is_within curves time ≡ true
      → (earlier : ℕ) × (slice_get (marked curves) (column_of curves time) ≡ Some (Some earlier))
  mark-for time there within =
      let column = column_of curves time in
      let stands : stands_in curves column time ≡ true = ap (λ b. b && (column == column)) within
      ∙ eq-eqb column column refl in
      let found = finds (stands_in curves column) curves.commands time there.0 there.1 there.2 stands in
      (found.0, marked-at column (omega arith) ∙ ap (λ (o : Option ℕ). Some o) found.1)
