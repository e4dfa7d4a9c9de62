-- The words of a line.
use Rattle.std.specs.Prelude.{ℕ, nat_lt, nat_le, List, length, filter}
use Rattle.std.specs.List.{slice_split}

-- The words: the parts of a line between bytes up to 32. If the line is printable, these bytes are its separators, and
-- the words are its tokens.
abbrev pub words_of : List ℕ → List (List ℕ)
words_of line = filter (λ word. nat_lt 0 (length word)) (slice_split (λ b. nat_le b 32) line)
