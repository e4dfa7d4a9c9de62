-- Printed words and lines, read again.
use Rattle.lot_print.proofs.Common.{AllDigits, Bool, List, Some, Spaces, ap, append-nil, arith, decimal, decimal_digit, decimal_is_IsNumeral, digit_from_value, digits_value, eqb-false, false, filter, first_decimal, flat_map, get_or, is_ascii_digit, is_printable, le-leb, length, lines_of, list_all, lt-ltb, nat_le, nat_lt, ne_eqb, not, number_of, prefix_len, refl, slice_index, slice_split, suc, take, take-append_seam, tokens_of, true, without_end, zero, ℕ, [], ⊤, ◌&&◌, ◌++◌, ◌-◌, ◌<◌, ◌==◌, ◌^◌, ◌||◌, ◌∙◌, ◌∷◌, ◌≡◌, ◌≤◌}

-- bytes that are no space, and print
abbrev pub Plain : List ℕ → Type 0
Plain [] = ⊤
Plain (b ∷ bs) = (32 < b) × (b ≤ 126) × Plain bs

-- bytes that are a space or print
abbrev pub Shown : List ℕ → Type 0
Shown [] = ⊤
Shown (b ∷ bs) = (32 ≤ b) × (b ≤ 126) × Shown bs

-- words of plain bytes
abbrev pub Words : List (List ℕ) → Type 0
Words [] = ⊤
Words (w ∷ ws) = (0 < length w) × Plain w × Words ws

-- words, each after a space
abbrev pub spaced : List (List ℕ) → List ℕ
spaced ws = flat_map (λ w. 32 ∷ w) ws

pub Shown-word : (w : List ℕ) → Plain w → Shown w
Shown-word [] plain = tt
Shown-word (b ∷ bs) plain = (omega (arith, plain.0), plain.1, Shown-word bs plain.2)

pub Shown-append : (xs ys : List ℕ) → Shown xs → Shown ys → Shown (xs ++ ys)
Shown-append [] ys first second = second
Shown-append (x ∷ xs) ys first second = (first.0, first.1, Shown-append xs ys first.2 second)

pub Shown-spaced : (ws : List (List ℕ)) → Words ws → Shown (spaced ws)
Shown-spaced [] words = tt
Shown-spaced (w ∷ ws) words =
    (omega arith, omega arith, Shown-append w (spaced ws) (Shown-word w words.1) (Shown-spaced ws words.2))

-- what is shown is printable
pub is_printable-shown : (xs : List ℕ) → Shown xs → is_printable Spaces xs ≡ true
is_printable-shown [] shown = refl
is_printable-shown (x ∷ xs) shown = at (x == 32) refl (is_printable-shown xs shown.2)
  where
    at : (e : Bool) → (x == 32) ≡ e → is_printable Spaces xs ≡ true
        → (((e || (nat_le 33 x && nat_le x 126)) && is_printable Spaces xs) ≡ true)
    at true is others = others
    at false is others =
        let above : 33 ≤ x = omega (arith, shown.0, eqb-false x 32 is) in
        rw (le-leb 33 x above, le-leb x 126 shown.1) others

-- ---- lines

no_end : (x : ℕ) → 32 ≤ x → (x == 10) ≡ false
no_end x high = ne_eqb x 10 (λ same. omega (arith, same, high))

-- a shown line is the first of the lines
pub lines_of-line : (line rest : List ℕ) → Shown line → lines_of (line ++ 10 ∷ rest) ≡ (line ++ 10 ∷ []) ∷ lines_of rest
lines_of-line [] rest shown = refl
lines_of-line (x ∷ xs) rest shown = rw (no_end x shown.0, lines_of-line xs rest shown.2) refl

prefix-line : (line : List ℕ) → Shown line → prefix_len (λ b. not (b == 10)) (line ++ 10 ∷ []) ≡ length line
prefix-line [] shown = refl
prefix-line (x ∷ xs) shown = rw (no_end x shown.0, prefix-line xs shown.2) (omega arith)

pub without_end-line : (line : List ℕ) → Shown line → without_end (line ++ 10 ∷ []) ≡ line
without_end-line line shown = ap (λ n. take n (line ++ 10 ∷ [])) (prefix-line line shown)
    ∙ take-append_seam line (10 ∷ [])

-- ---- tokens

no_space : (x : ℕ) → 32 < x → (x == 32) ≡ false
no_space x high = ne_eqb x 32 (λ same. omega (arith, same, high))

split-word : (w rest : List ℕ) → Plain w
    → slice_split (λ b. b == 32) (w ++ 32 ∷ rest) ≡ w ∷ slice_split (λ b. b == 32) rest
split-word [] rest plain = refl
split-word (x ∷ xs) rest plain = rw (no_space x plain.0, split-word xs rest plain.2) refl

split-last : (w : List ℕ) → Plain w → slice_split (λ b. b == 32) w ≡ w ∷ []
split-last [] plain = refl
split-last (x ∷ xs) plain = rw (no_space x plain.0, split-last xs plain.2) refl

split-words : (w : List ℕ) (ws : List (List ℕ)) → Plain w → Words ws
    → slice_split (λ b. b == 32) (w ++ spaced ws) ≡ w ∷ ws
split-words w [] plain words = rw (append-nil w) (split-last w plain)
split-words w (v ∷ vs) plain words = split-word w (v ++ spaced vs) plain
    ∙ ap (λ others. w ∷ others) (split-words v vs words.1 words.2)

all_tokens : (ws : List (List ℕ)) → Words ws → filter (λ token. nat_lt 0 (length token)) ws ≡ ws
all_tokens [] words = refl
all_tokens (w ∷ ws) words = rw (lt-ltb 0 (length w) words.0, all_tokens ws words.2) refl

-- words after a first one are read as those tokens
pub tokens_of-words : (w : List ℕ) (ws : List (List ℕ)) → Words (w ∷ ws) → tokens_of Spaces (w ++ spaced ws) ≡ w ∷ ws
tokens_of-words w ws words = rw (split-words w ws words.1 words.2) (all_tokens (w ∷ ws) words)

-- ---- numbers

Plain-digits : (ds : List ℕ) → AllDigits 10 ds → Plain ds
Plain-digits [] digits = tt
Plain-digits (d ∷ ds) digits =
    let range = digit_from_value d digits.0 in
    (omega (arith, range.0), omega (arith, range.1), Plain-digits ds digits.1)

digits_pass : (ds : List ℕ) → AllDigits 10 ds → list_all is_ascii_digit ds ≡ true
digits_pass [] digits = refl
digits_pass (d ∷ ds) digits =
    let range = digit_from_value d digits.0 in
    rw (le-leb 48 d range.0, le-leb d 57 range.1) (digits_pass ds digits.1)

-- a printed number is a word
pub some-decimal : (n : ℕ) → n < 2 ^ 64 → 0 < length (decimal n)
some-decimal n small = (decimal_is_IsNumeral n small).0.0

pub Plain-decimal : (n : ℕ) → n < 2 ^ 64 → Plain (decimal n)
Plain-decimal n small = Plain-digits (decimal n) (decimal_is_IsNumeral n small).0.1

-- it has no leading zero
no_zero_in_front : (n : ℕ) → n < 2 ^ 64
    → not (nat_lt 1 (length (decimal n)) && (slice_index (decimal n) 0 == 48)) ≡ true
no_zero_in_front zero small = let digit : decimal 0 ≡ 48 ∷ [] = decimal_digit 0 (omega arith) in rw digit refl
no_zero_in_front (suc n) small =
    let first : 48 < get_or (decimal (suc n)) 0 0 = first_decimal (suc n) (omega arith) small in
    let other : (slice_index (decimal (suc n)) 0 == 48) ≡ false = ne_eqb _ 48 (λ same. omega (arith, same, first)) in
    at (nat_lt 1 (length (decimal (suc n)))) other
  where
    at : (e : Bool) → (slice_index (decimal (suc n)) 0 == 48) ≡ false
        → not (e && (slice_index (decimal (suc n)) 0 == 48)) ≡ true
    at true other = rw other refl
    at false other = refl

-- a printed number is read as that number
pub number_of-decimal : (n : ℕ) → n < 2 ^ 64 → number_of (decimal n) ≡ Some n
number_of-decimal n small =
    let numeral = decimal_is_IsNumeral n small in
    let value : digits_value 10 (decimal n) ≡ n = numeral.1 in
    let some : nat_lt 0 (length (decimal n)) ≡ true = lt-ltb 0 (length (decimal n)) numeral.0.0 in
    let digits : list_all is_ascii_digit (decimal n) ≡ true = digits_pass (decimal n) numeral.0.1 in
    let within : nat_le n (2 ^ 64 - 1) ≡ true = le-leb n (2 ^ 64 - 1) (omega (arith, small)) in
    rw (value, some, no_zero_in_front n small, digits, within) refl
