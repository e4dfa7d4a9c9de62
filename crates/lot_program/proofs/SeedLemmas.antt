-- Omitted seeds.
use Rattle.lot_program.proofs.Common.{AreSeeds, ap, arith, get_or-range_with_len, length-range_with_len, range_with_len, refl, suc, zero, ℕ, [], ◌++◌, ◌+◌, ◌<◌, ◌∷◌, ◌≡◌, ◌≤◌}

-- one number more
range-push : (a n : ℕ) → range_with_len a (n + 1) ≡ range_with_len a n ++ (a + n) ∷ []
range-push a zero = let none : a + 0 ≡ a = omega arith in rw none refl
range-push a (suc n) =
    let more : suc n + 1 ≡ suc (n + 1) = omega arith in
    let shifted : a + 1 + n ≡ a + suc n = omega arith in
    rw more (ap (λ xs. a ∷ xs) (rw (range-push (a + 1) n, shifted) refl))

pub range_with_len-push : (n : ℕ) → range_with_len 1 (n + 1) ≡ range_with_len 1 n ++ (n + 1) ∷ []
range_with_len-push n = let same : 1 + n ≡ n + 1 = omega arith in rw (range-push 1 n, same) refl

-- each processor's number is a seed
pub AreSeeds-own : (n : ℕ) → n ≤ 64 → AreSeeds n (range_with_len 1 n)
AreSeeds-own n few = record {
  count = length-range_with_len 1 n;
  each = λ k d within. let short : k < n = rw length-range_with_len at within in
      rw (get_or-range_with_len 1 n k d short) (omega arith, omega (arith, short, few));
}
