-- The words of a line within a script, from left to right.
use Rattle.lot_text.proofs.Common.{Bool, Fails, LineFault, List, Ok, OpenScript, Reading, ScriptWord, Some, ap, argument_count, arith, drop, false, if◌then◌else◌, is_alone, length, length-drop, phrase_at, phrase_inside, phrases_inside, phrases_of, refl, script_line, stands_alone, sym, take, timed_script_words, true, word_in, ℕ, [], ◌<◌, ◌>>=◌, ◌∙◌, ◌∷◌, ◌≡◌}
use Rattle.lot_text.proofs.FaultLemmas.{Fails-then}

-- the first word of a line, with what belongs to it, and the words after it
phrases_of-first : (word : List ℕ) (tokens : List (List ℕ))
    → phrases_of (word ∷ tokens) ≡ phrase_at word tokens ∷ phrases_of (drop (argument_count word) tokens)
phrases_of-first word [] = at (is_alone word) refl
  where
    at : (alone : Bool) → is_alone word ≡ alone
        → phrases_of (word ∷ []) ≡ record { word = word; tokens = take (if alone then 0 else 1) [] }
        ∷ phrases_of (drop (if alone then 0 else 1) [])
    at true is = refl
    at false is = refl
phrases_of-first word (next ∷ tokens) = at (is_alone word) refl
  where
    at : (alone : Bool) → is_alone word ≡ alone
        → (if alone then record { word = word; tokens = [] }
        ∷ phrases_of (next ∷ tokens) else record { word = word; tokens = next ∷ [] } ∷ phrases_of tokens)
        ≡ record { word = word; tokens = take (if alone then 0 else 1) (next ∷ tokens) }
        ∷ phrases_of (drop (if alone then 0 else 1) (next ∷ tokens))
    at true is = refl
    at false is = refl

-- what is read of a line is what is read of its first word, and then of the others
read-first : (r : Reading) (word : List ℕ) (tokens : List (List ℕ))
    → phrases_inside r (phrases_of (word ∷ tokens)) ≡ (phrase_inside r r.unclosed (phrase_at word tokens) >>= λ after.
    phrases_inside after (phrases_of (drop (argument_count word) tokens)))
read-first r word tokens = ap (phrases_inside r) (phrases_of-first word tokens)

-- if the first word is accepted and another stands behind what belongs to it, that one is next
pub phrases-go_on : (r next_reading : Reading) (word next : List ℕ) (tokens left more : List (List ℕ))
    → phrase_inside r r.unclosed (phrase_at word tokens) ≡ Ok next_reading → left ≡ drop (argument_count word) tokens
    → left ≡ next ∷ more
    → phrases_inside next_reading (phrases_of (next ∷ more)) ≡ phrases_inside r (phrases_of (word ∷ tokens))
phrases-go_on r next_reading word next tokens left more read is some =
    sym (read-first r word tokens ∙ rw (read, ← is, some) refl)

-- if none does, the line is read
pub phrases-end : (r next_reading : Reading) (word : List ℕ) (tokens left : List (List ℕ))
    → phrase_inside r r.unclosed (phrase_at word tokens) ≡ Ok next_reading → left ≡ drop (argument_count word) tokens
    → left ≡ []
    → phrases_inside r (phrases_of (word ∷ tokens)) ≡ Ok next_reading
phrases-end r next_reading word tokens left read is none = read-first r word tokens ∙ rw (read, ← is, none) refl

-- if the first word is refused, the line is
pub phrases-fail : (fault : LineFault) (r : Reading) (word : List ℕ) (tokens : List (List ℕ))
    → Fails fault (phrase_inside r r.unclosed (phrase_at word tokens))
    → Fails fault (phrases_inside r (phrases_of (word ∷ tokens)))
phrases-fail fault r word tokens fails =
    rw (read-first r word tokens) (Fails-then fault (phrase_inside r r.unclosed (phrase_at word tokens))
    (λ after. phrases_inside after (phrases_of (drop (argument_count word) tokens))) fails)

-- fewer tokens are left
pub fewer-tokens : (word next : List ℕ) (tokens left more : List (List ℕ)) → left ≡ drop (argument_count word) tokens
    → left ≡ next ∷ more → length more < length tokens
fewer-tokens word next tokens left more is some =
    omega (arith, length-drop (argument_count word) tokens, ap length is, ap length some)

-- a word of an open script is a line of it, with the argument that it takes
pub phrase-read : (before r : Reading) (s : OpenScript) (w : ScriptWord) (alone : Bool) (word : List ℕ)
    (tokens : List (List ℕ)) → before ≡ r
    → before.unclosed ≡ Some s → Some w ≡ word_in timed_script_words word → alone ≡ stands_alone w
    → phrase_inside r r.unclosed (phrase_at word tokens)
    ≡ script_line (record before { unclosed = Some s }) s w (take (if alone then 0 else 1) tokens)
phrase-read before r s w alone word tokens same unclosed is stands =
    let again : r ≡ record before { unclosed = Some s } = sym same
    ∙ ap (λ u. record before { unclosed = u }) unclosed in
    rw (again, ← is, stands) refl
