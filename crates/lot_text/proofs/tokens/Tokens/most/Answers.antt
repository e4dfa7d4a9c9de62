-- Each token takes a byte, and all but the last a separator.
use Rattle.lot_text.proofs.Common.{Bool, List, ap, arith, cond, div_ceil_times, false, filter, length, lt-ltb, nat_le, nat_lt, onto_first, refl, slice_split, suc, sym, true, ℕ, [], ◌+◌, ◌∷◌, ◌≡◌, ◌≤◌}
use Rattle.lot_text.proofs.tokens.Tokens.most.Goals as goal

-- the number of parts that aren't empty
abbrev count : List (List ℕ) → ℕ
count parts = length (filter (λ word. nat_lt 0 (length word)) parts)

-- the length of the first part
abbrev first : List (List ℕ) → ℕ
first [] = 0
first (part ∷ parts) = length part

-- two of a line's parts need a separator between them, also in front of the first if that is empty
record AreFew (parts : List (List ℕ)) (n : ℕ) : Type 0 where
  all : count parts + count parts ≤ n + 1
  behind : first parts ≡ 0 → count parts + count parts ≤ n

filled : (n : ℕ) → nat_lt 0 (suc n) ≡ true
filled n = lt-ltb 0 (suc n) (omega arith)

few-more : (x n : ℕ) (parts : List (List ℕ)) → AreFew parts n → AreFew (onto_first x parts) (suc n)
few-more x n [] few = record { all = omega arith; behind = λ e. absurd (omega (arith, e)) }
few-more x n ([] ∷ parts) few =
    let more : count (onto_first x ([] ∷ parts)) ≡ suc (count ([] ∷ parts)) = refl in
    record { all = omega (arith, more, few.behind refl); behind = λ e. absurd (omega (arith, e)) }
few-more x n ((y ∷ part) ∷ parts) few =
    let same : count (onto_first x ((y ∷ part) ∷ parts)) ≡ count ((y ∷ part) ∷ parts) =
    rw (filled (suc (length part)), filled (length part)) refl in
    record { all = omega (arith, same, few.all); behind = λ e. absurd (omega (arith, e)) }

few-after : (x n : ℕ) (parts : List (List ℕ)) (separates : Bool) → AreFew parts n
    → AreFew (cond separates ([] ∷ parts) (onto_first x parts)) (suc n)
few-after x n parts true few =
    let same : count ([] ∷ parts) ≡ count parts = refl in
    record { all = omega (arith, same, few.all); behind = λ e. omega (arith, same, few.all) }
few-after x n parts false few = few-more x n parts few

few-parts : (p : ℕ → Bool) (bytes : List ℕ) → AreFew (slice_split p bytes) (length bytes)
few-parts p [] = record { all = omega arith; behind = λ e. omega arith }
few-parts p (x ∷ bytes) = few-after x (length bytes) (slice_split p bytes) (p x) (few-parts p bytes)

pub returns : goal.returns
returns c =
    let bytes = c.self.inside.rest.now in
    let few = few-parts (λ b. nat_le b 32) bytes in
    let same : length c.args.self.now ≡ count (slice_split (λ b. nat_le b 32) bytes) = ap length (sym c.self.view_is) in
    omega (arith, few.all, same, c.div_ceil.ensures, (div_ceil_times (length bytes) 2 (omega arith)).0)
