-- No word begins a line of the header and one of the body.
use Rattle.lot_text.proofs.Common.{Bool, List, None, Option, Some, ap, bytes_eq, false, false≢true, refl, sym, true, word_in, ℕ, [], ◌∷◌, ◌≡◌}
use Rattle.std.specs.Prelude.{is_none, ◌&&◌}
use Rattle.std.proofs.lemmas.Slice.Eq.{bytes_eq-Decides}
use Rattle.lot_simulation.specs.declared.input.BodyWord.{BodyWord}
use Rattle.lot_simulation.specs.Words.{body_table, header_table, words_for}

-- whether no word of the first table is in the second
abbrev are_apart : {V W : Type 0} → List (List ℕ × V) → List (List ℕ × W) → Bool
are_apart [] others = true
are_apart (row ∷ rows) others = is_none (word_in others row.0) && are_apart rows others

none-of : {W : Type 0} (found : Option W) (rest : Bool) → (is_none found && rest) ≡ true
    → (found ≡ None) × (rest ≡ true)
none-of None rest both = (refl, both)
none-of (Some w) rest both = absurd (false≢true both)

-- so a word of the first isn't in the second
apart : {V W : Type 0} (table : List (List ℕ × V)) (others : List (List ℕ × W)) (token : List ℕ) (v : V)
    → are_apart table others ≡ true → word_in table token ≡ Some v → word_in others token ≡ None
apart [] others token v all is = absurd (false≢true (ap is_none (sym is)))
apart (row ∷ rows) others token v all is = at (apart rows others token v) (bytes_eq row.0 token) refl
  where
    at : (are_apart rows others ≡ true → word_in rows token ≡ Some v → word_in others token ≡ None) → (same : Bool)
        → bytes_eq row.0 token ≡ same → word_in others token ≡ None
    at rest true same =
        rw (← (bytes_eq-Decides row.0 token).0 same) (none-of (word_in others row.0) (are_apart rows others) all).0
    at rest false differs = rest (none-of (word_in others row.0) (are_apart rows others) all).1 (rw differs at is)

-- no word of the body is one of the header
pub no-header : (is_timed : Bool) (token : List ℕ) (word : BodyWord)
    → word_in (words_for is_timed body_table) token ≡ Some word → word_in (words_for is_timed header_table) token ≡ None
no-header true token word is = apart (words_for true body_table) (words_for true header_table) token word refl is
no-header false token word is = apart (words_for false body_table) (words_for false header_table) token word refl is
