-- Numbers that have more than 64 bits, and those that don't.
use Rattle.lot_text.proofs.Common.{Bool, List, None, Some, ap, arith, digit_value, digits_value_after, drop, drop-cons, false, get_or, le-leb, leb-false, length, lt-leb, nat_le, refl, suc, sym, then_some, true, within_64_bits, ℕ, [], ◌*◌, ◌+◌, ◌-◌, ◌<◌, ◌^◌, ◌∙◌, ◌∷◌, ◌≡◌, ◌≤◌}

-- a number of 64 bits is within them
pub within_64_bits-of : (n : ℕ) → n < 2 ^ 64 → Some n ≡ within_64_bits n
within_64_bits-of n small = let within : nat_le n (2 ^ 64 - 1) ≡ true = le-leb n (2 ^ 64 - 1) (omega (arith, small)) in
    rw within refl

-- a larger one isn't
within_64_bits-past : (n : ℕ) → 2 ^ 64 - 1 < n → None ≡ within_64_bits n
within_64_bits-past n large = let past : nat_le n (2 ^ 64 - 1) ≡ false = lt-leb n (2 ^ 64 - 1) large in rw past refl

-- a number that isn't within 64 bits is larger
large_from : (n : ℕ) → None ≡ within_64_bits n → 2 ^ 64 - 1 < n
large_from n past = at (nat_le n (2 ^ 64 - 1)) refl past
  where
    at : (e : Bool) → nat_le n (2 ^ 64 - 1) ≡ e → None ≡ then_some e n → 2 ^ 64 - 1 < n
    at true is past = cc
    at false is past = leb-false n (2 ^ 64 - 1) is

-- more digits make no number less
digits_value_after-grows : (n : ℕ) (ds : List ℕ) → n ≤ digits_value_after 10 n ds
digits_value_after-grows n [] = omega arith
digits_value_after-grows n (d ∷ ds) = omega (arith, digits_value_after-grows (n * 10 + digit_value d) ds)

-- a number that is past 64 bits stays so
pub digits_value_after-past : (n i all : ℕ) (ds : List ℕ) → i < length ds → digits_value_after 10 n (drop i ds) ≡ all
    → None ≡ within_64_bits (n * 10 + digit_value (get_or ds i 0)) → None ≡ within_64_bits all
digits_value_after-past n i all ds within read past =
    let next : digits_value_after 10 (n * 10 + digit_value (get_or ds i 0)) (drop (suc i) ds) ≡ all =
    sym (ap (λ more. digits_value_after 10 n more) (drop-cons ds i 0 within)) ∙ read in
    within_64_bits-past all
    (omega (arith, large_from (n * 10 + digit_value (get_or ds i 0)) past, digits_value_after-grows (n * 10 + digit_value (get_or ds i 0)) (drop (suc i) ds), next))
