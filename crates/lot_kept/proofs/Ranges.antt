-- One more number of a range.
use Rattle.std.proofs.Common.{◌≡◌, ℕ, zero, suc, ◌+◌, List, [], ◌∷◌, ◌++◌, ap, ◌∙◌, arith}
use Rattle.std.specs.List.{range_with_len}

more : (a n j : ℕ) → a + n ≡ j → range_with_len a (suc n) ≡ range_with_len a n ++ j ∷ []
more a zero j is = let same : a ≡ j = omega (arith, is) in ap (λ (x : ℕ). x ∷ []) same
more a (suc n) j is = ap (λ (xs : List ℕ). a ∷ xs) (more (a + 1) n j (omega (arith, is)))

pub range-more : (a n j : ℕ) → a + n ≡ j → range_with_len a (n + 1) ≡ range_with_len a n ++ j ∷ []
range-more a n j is = let same : n + 1 ≡ suc n = omega arith in ap (range_with_len a) same ∙ more a n j is
