-- The table of pairs of digits.
use Rattle.lot_print.proofs.Common.{Bool, List, PAIRS, T, and_l, and_r, ap, append_assoc, arith, decimal, decimal_four, decimal_pair, eq-zero-or-pos, eqb, eqb→eq, get_or, inl, inr, pair, suc, sym, true, zero, ℕ, ◌%◌, ◌&&◌, ◌*◌, ◌++◌, ◌+◌, ◌-◌, ◌/◌, ◌<◌, ◌^◌, ◌∙◌, ◌≡◌, ◌≤◌}

abbrev are_pairs : ℕ → Bool
are_pairs zero = true
are_pairs (suc p) =
    (eqb (get_or PAIRS (p * 2) 0) (48 + p / 10) && eqb (get_or PAIRS (p * 2 + 1) 0) (48 + p % 10)) && are_pairs p

below : (n p : ℕ) → T (are_pairs n) → p < n
    → (get_or PAIRS (p * 2) 0 ≡ 48 + p / 10) × (get_or PAIRS (p * 2 + 1) 0 ≡ 48 + p % 10)
below zero p t h = absurd (omega arith)
below (suc n) p t h =
    elim (eq-zero-or-pos (n - p)) [
      | inl z ↦ let e : p ≡ n = omega arith in let a = and_l _ (are_pairs n) t in
          rw e (eqb→eq _ _ (and_l _ _ a), eqb→eq _ _ (and_r _ _ a))
      | inr g ↦ below n p (and_r _ (are_pairs n) t) (omega arith)
    ]

pub PAIRS_at : (p : ℕ) → p < 100 → (get_or PAIRS (p * 2) 0 ≡ 48 + p / 10) × (get_or PAIRS (p * 2 + 1) 0 ≡ 48 + p % 10)
PAIRS_at p h = below 100 p tt h

-- one part after another
pub parts : (old mid new first second : List ℕ) → mid ≡ old ++ first → new ≡ mid ++ second
    → new ≡ old ++ (first ++ second)
parts old mid new first second one two = two ∙ ap (λ xs. xs ++ second) one ∙ append_assoc old first second

-- the last two digits of a number, after those before
pub last_pair : (old mid new : List ℕ) (n : ℕ) → 100 ≤ n → n < 2 ^ 64 → mid ≡ old ++ decimal (n / 100)
    → new ≡ mid ++ pair (n % 100) → new ≡ old ++ decimal n
last_pair old mid new n more fits one two =
    parts old mid new (decimal (n / 100)) (pair (n % 100)) one two
    ∙ ap (λ ds. old ++ ds) (sym (decimal_pair n more fits))

-- and the last four, two at a time
pub last_pairs : (old mid mid_too new : List ℕ) (n : ℕ) → 10000 ≤ n → n < 2 ^ 64 → mid ≡ old ++ decimal (n / 10000)
    → mid_too ≡ mid ++ pair (n % 10000 / 100) → new ≡ mid_too ++ pair (n % 10000 % 100) → new ≡ old ++ decimal n
last_pairs old mid mid_too new n more fits one two three =
    parts old mid new (decimal (n / 10000)) _ one
    (parts mid mid_too new (pair (n % 10000 / 100)) (pair (n % 10000 % 100)) two three)
    ∙ ap (λ ds. old ++ ds) (sym (decimal_four n more fits))
