-- Lots and loans gathered one by one.
use Rattle.lot_explain.proofs.Common.{Bool, List, State, ap, arith, false, filter, flat_map, is_ready, lot_if_ready, map, option_any, range-push, range_with_len, ready_lot, refl, status_of, suc, sym, true, ℕ, [], ◌++◌, ◌+◌, ◌∙◌, ◌∷◌, ◌≡◌}

-- the lots of those of these threads that are Ready
pub ready-lots : (s : State) (ts : List ℕ)
    → flat_map (lot_if_ready s) ts ≡ map (ready_lot s) (filter (λ t. option_any is_ready (status_of s.records t)) ts)
ready-lots s [] = refl
ready-lots s (t ∷ ts) = at (option_any is_ready (status_of s.records t)) refl (ready-lots s ts)
  where
    at : (b : Bool) → option_any is_ready (status_of s.records t) ≡ b → flat_map (lot_if_ready s) ts ≡ map (ready_lot s)
        (filter (λ t. option_any is_ready (status_of s.records t)) ts)
        → flat_map (lot_if_ready s) (t ∷ ts) ≡ map (ready_lot s)
        (filter (λ t. option_any is_ready (status_of s.records t)) (t ∷ ts))
    at true is rest = rw is (ap (λ xs. ready_lot s t ∷ xs) rest)
    at false is rest = rw is rest

-- one number more is passed
pub each-more : {A : Type 0} (f : State → ℕ → List A) (s now : State) (k : ℕ) (xs ys : List A) → now ≡ s → xs
    ≡ flat_map (f s) (range_with_len 1 k) → ys ≡ xs ++ f now (k + 1) → ys ≡ flat_map (f s) (range_with_len 1 (k + 1))
each-more f s now k xs ys same is next =
    let e : k + 1 ≡ suc k = omega arith in
    let g : k + 1 ≡ 1 + k = omega arith in
    next ∙ ap (λ zs. zs ++ f now (k + 1)) is ∙ ap (λ x. flat_map (f s) (range_with_len 1 k) ++ f x (k + 1)) same
    ∙ ap (λ n. flat_map (f s) (range_with_len 1 k) ++ f s n) g ∙ sym (range-push (f s) 1 k)
    ∙ ap (λ n. flat_map (f s) (range_with_len 1 n)) (sym e)
