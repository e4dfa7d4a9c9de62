-- The result of a loop over a slice for the items passed.
use Rattle.lot_station.proofs.Common.{List, Some, below_more, get_or, get_or_from_slice_get, slice_get, subst, ℕ, ◌+◌, ◌<◌, ◌∙◌, ◌≡◌}

pub below_next : {A : Type 0} (l : List A) (P : ℕ → A → Type 0) (n : ℕ) (x : A)
    → ((j : ℕ) (s : A) → j < n → slice_get l j ≡ Some s → P j s) → x ≡ get_or l n x → P n x → (j : ℕ) (s : A)
    → j < n + 1 → slice_get l j ≡ Some s → P j s
below_next l P n x below is here j s low at =
    below_more (λ i. (t : _) → slice_get l i ≡ Some t → P i t) n (λ i less t there. below i t less there)
    (λ t there. subst (P n) (is ∙ get_or_from_slice_get l n t x there) here) j low s at
