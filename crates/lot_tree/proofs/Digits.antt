-- Binary digits: how many there are, and the lowest ones that are 1.
use Rattle.lot_tree.proofs.Common.{ap, arith, bit_at, bit_at-suc, bit_at_lowest, bit_at_or, bit_or, count_leading_zeros, leading_length, max, or_self, or_shr, pow-suc, pow_pos, suc, sym, zero, ℕ, ◌%◌, ◌*◌, ◌+◌, ◌-◌, ◌/◌, ◌<◌, ◌^◌, ◌∙◌, ◌≡◌, ◌≤◌}

-- a number fits what its leading zeros leave of 64 digits, and not less
pub digits_of : (n : ℕ) → n < 2 ^ 64
    → (n < 2 ^ (64 - count_leading_zeros 64 n)) × (2 ^ (64 - count_leading_zeros 64 n) ≤ 2 * n + 1)
digits_of n fits =
    let found = leading_length 64 n fits in
    let left : 64 - count_leading_zeros 64 n ≡ found.0 = omega (arith, found.1) in
    rw left (found.2, found.3)

-- a number whose lowest k digits are 1 is no less than 2 ^ k - 1
pub ones-least : (k n : ℕ) → ((i : ℕ) → i < k → bit_at n i ≡ 1) → 2 ^ k - 1 ≤ n
ones-least zero n ones = omega arith
ones-least (suc k) n ones =
    let odd : n % 2 ≡ 1 = sym (bit_at_lowest n) ∙ ones 0 (omega arith) in
    let half = ones-least k (n / 2) (λ i low. sym (bit_at-suc n i) ∙ ones (suc i) (omega (arith, low))) in
    omega (arith, odd, half, pow-suc 2 k, pow_pos k)

or-half : (a b : ℕ) → bit_or a b / 2 ≡ bit_or (a / 2) (b / 2)
or-half a b = or_shr a b 1

or-low : (a b : ℕ) → bit_or a b % 2 ≡ max (a % 2) (b % 2)
or-low a b = rw (bit_at_lowest (bit_or a b), bit_at_lowest a, bit_at_lowest b) at (bit_at_or a b 0)

-- a number or the next one is the number with its lowest digit 0 made 1
pub or-next : (place n : ℕ) → ((i : ℕ) → i < place → bit_at n i ≡ 1) → bit_at n place ≡ 0
    → bit_or n (n + 1) ≡ n + 2 ^ place
or-next zero n ones none =
    let even : n % 2 ≡ 0 = sym (bit_at_lowest n) ∙ none in
    let half : (n + 1) / 2 ≡ n / 2 = omega (arith, even) in
    let high : bit_or n (n + 1) / 2 ≡ n / 2 = or-half n (n + 1) ∙ ap (bit_or (n / 2)) half ∙ or_self (n / 2) in
    omega (arith, even, high, or-low n (n + 1))
or-next (suc place) n ones none =
    let odd : n % 2 ≡ 1 = sym (bit_at_lowest n) ∙ ones 0 (omega arith) in
    let half : (n + 1) / 2 ≡ n / 2 + 1 = omega (arith, odd) in
    let next = or-next place (n / 2) (λ i low. sym (bit_at-suc n i) ∙ ones (suc i) (omega (arith, low)))
    (sym (bit_at-suc n place) ∙ none) in
    let high : bit_or n (n + 1) / 2 ≡ n / 2 + 2 ^ place = or-half n (n + 1) ∙ ap (bit_or (n / 2)) half ∙ next in
    omega (arith, odd, high, or-low n (n + 1), pow-suc 2 place)
