-- The lines of an input, the tokens of a line, and numbers.
use Rattle.std.specs.Prelude.{ℕ, ◌-◌, ◌^◌, ◌==◌, nat_lt, nat_le, Bool, true, false, not, ◌&&◌, ◌||◌, Option, List, [], ◌∷◌, length, slice_index, filter, take_while, if◌then◌else◌}
use Rattle.std.specs.Bool.{then_some}
use Rattle.std.specs.List.{list_all, slice_split}
use Rattle.std.specs.Char.{is_ascii_digit}
use Rattle.std.specs.Str.Parse.{digits_value}
use Rattle.lot_simulation.specs.declared.separators.Separators.{Separators}
use Rattle.lot_simulation.specs.declared.separators.Separators.TheVariants.{Spaces, Blanks}

-- the lines with this byte, which isn't byte 10, before the first of them
abbrev pub with_first_byte : ℕ → List (List ℕ) → List (List ℕ)
with_first_byte b [] = (b ∷ []) ∷ []
with_first_byte b (line ∷ lines) = (b ∷ line) ∷ lines

-- The lines, each with the byte 10 that ends it. Only the last line may lack it; then it isn't empty.
abbrev pub lines_of : List ℕ → List (List ℕ)
lines_of [] = []
lines_of (b ∷ bs) = if b == 10 then (b ∷ []) ∷ lines_of bs else with_first_byte b (lines_of bs)

-- a line without the byte 10 that ends it
abbrev pub without_end : List ℕ → List ℕ
without_end line = take_while (λ b. not (b == 10)) line

-- whether the byte separates tokens: a space, and with blanks also a tab or a carriage return
abbrev pub separates : Separators → ℕ → Bool
separates Spaces b = b == 32
separates Blanks b = b == 9 || (b == 13 || b == 32)

-- the separators in an input, by whether it is timed
abbrev pub separators_in : Bool → Separators
separators_in false = Spaces
separators_in true = Blanks

-- the tokens: the parts of a line between separators
abbrev pub tokens_of : Separators → List ℕ → List (List ℕ)
tokens_of separators line = filter (λ token. nat_lt 0 (length token)) (slice_split (separates separators) line)

-- whether the token begins with `#`
abbrev pub is_comment : List ℕ → Bool
is_comment [] = false
is_comment (b ∷ bs) = b == 35

-- a line without a token, or whose first token begins with `#`, is ignored
abbrev pub is_ignored : List (List ℕ) → Bool
is_ignored [] = true
is_ignored (first ∷ others) = is_comment first

-- whether each byte is a separator or printable ASCII
abbrev pub is_printable : Separators → List ℕ → Bool
is_printable separators line = list_all (λ b. separates separators b || (nat_le 33 b && nat_le b 126)) line

-- whether the token is one or more digits, without a leading zero except in `0` itself
abbrev pub is_numeral : List ℕ → Bool
is_numeral token = nat_lt 0 (length token) && not (nat_lt 1 (length token) && (slice_index token 0 == 48)) && list_all is_ascii_digit token

-- the token as a number below 2 ^ 64, if it is one
abbrev pub number_of : List ℕ → Option ℕ
number_of token = then_some (is_numeral token && nat_le (digits_value 10 token) (2 ^ 64 - 1)) (digits_value 10 token)
