-- The first word of a line, and those after it.
use Rattle.lot_text.proofs.Common.{Blanks, Bool, List, Separators, Spaces, and_parts, ap, arith, cond, drop, drop_all, false, filter, is_comment, is_ignored, is_printable, length, length-drop, length-prefix_len, lt-ltb, nat_le, nat_lt, nat_tests, not, onto_first, prefix_len, refl, separates, slice_split, suc, sym, take, take_all, take_rest, tokens_of, true, words_of, zero, ℕ, [], ◌&&◌, ◌+◌, ◌-◌, ◌<◌, ◌==◌, ◌||◌, ◌∙◌, ◌∷◌, ◌≡◌, ◌≤◌}

abbrev is_word : List ℕ → Bool
is_word word = nat_lt 0 (length word)

-- the words of a line, where the bytes of which the test is true separate them
abbrev pub parts : (ℕ → Bool) → List ℕ → List (List ℕ)
parts p xs = filter is_word (slice_split p xs)

-- how many bytes stand before the first that separates
abbrev pub first_len : (ℕ → Bool) → List ℕ → ℕ
first_len p xs = prefix_len (λ b. not (p b)) xs

-- separators at the front say nothing
parts-front : (p : ℕ → Bool) (xs : List ℕ) → parts p xs ≡ parts p (drop (prefix_len p xs) xs)
parts-front p [] = refl
parts-front p (x ∷ xs) = at (p x) refl (parts-front p xs)
  where
    at : (e : Bool) → p x ≡ e → parts p xs ≡ parts p (drop (prefix_len p xs) xs)
        → parts p (x ∷ xs) ≡ parts p (drop (cond e (1 + prefix_len p xs) 0) (x ∷ xs))
    at true is others = let more : 1 + prefix_len p xs ≡ suc (prefix_len p xs) = omega arith in rw (is, more) others
    at false is others = refl

-- the first of the parts
split-first : (p : ℕ → Bool) (xs : List ℕ) → slice_split p xs ≡ take (first_len p xs) xs ∷ drop 1 (slice_split p xs)
split-first p [] = refl
split-first p (x ∷ xs) = at (p x) refl (split-first p xs)
  where
    at : (e : Bool) → p x ≡ e → slice_split p xs ≡ take (first_len p xs) xs ∷ drop 1 (slice_split p xs)
        → cond e ([] ∷ slice_split p xs) (onto_first x (slice_split p xs))
        ≡ take (cond (not e) (1 + first_len p xs) 0)
        (x ∷ xs) ∷ drop 1 (cond e ([] ∷ slice_split p xs) (onto_first x (slice_split p xs)))
    at true is first = refl
    at false is first = let more : 1 + first_len p xs ≡ suc (first_len p xs) = omega arith in rw (more, first) refl

-- the other parts
split-others : (p : ℕ → Bool) (xs : List ℕ)
    → filter is_word (drop 1 (slice_split p xs)) ≡ parts p (drop (first_len p xs) xs)
split-others p [] = refl
split-others p (x ∷ xs) = at (p x) refl (split-first p xs) (split-others p xs)
  where
    at : (e : Bool) → p x ≡ e → slice_split p xs ≡ take (first_len p xs) xs ∷ drop 1 (slice_split p xs)
        → filter is_word (drop 1 (slice_split p xs)) ≡ parts p (drop (first_len p xs) xs)
        → filter is_word (drop 1 (cond e ([] ∷ slice_split p xs) (onto_first x (slice_split p xs))))
        ≡ parts p (drop (cond (not e) (1 + first_len p xs) 0) (x ∷ xs))
    at true is first others = rw is refl
    at false is first others =
        let more : 1 + first_len p xs ≡ suc (first_len p xs) = omega arith in
        let same : drop 1 (onto_first x (slice_split p xs)) ≡ drop 1 (slice_split p xs) = rw first refl in
        rw (more, same) others

-- a line that begins with a word has it as its first
parts-word : (p : ℕ → Bool) (xs : List ℕ) → 0 < first_len p xs
    → parts p xs ≡ take (first_len p xs) xs ∷ parts p (drop (first_len p xs) xs)
parts-word p xs some =
    let long : nat_lt 0 (length (take (first_len p xs) xs)) ≡ true =
    rw length-prefix_len (lt-ltb 0 (first_len p xs) some) in
    ap (λ each. filter is_word each) (split-first p xs) ∙ rw (long, split-others p xs) refl

-- after the separators at the front a word begins
word-begins : (p : ℕ → Bool) (xs : List ℕ) → 0 < length (drop (prefix_len p xs) xs)
    → 0 < first_len p (drop (prefix_len p xs) xs)
word-begins p [] some = absurd (omega (arith, some))
word-begins p (x ∷ xs) some = at (p x) refl (word-begins p xs) some
  where
    at : (e : Bool) → p x ≡ e → (0 < length (drop (prefix_len p xs) xs) → 0 < first_len p (drop (prefix_len p xs) xs))
        → 0 < length (drop (cond e (1 + prefix_len p xs) 0) (x ∷ xs))
        → 0 < first_len p (drop (cond e (1 + prefix_len p xs) 0) (x ∷ xs))
    at true is others some = let more : 1 + prefix_len p xs ≡ suc (prefix_len p xs) = omega arith in
        rw more (others (rw more at some))
    at false is others some = rw is (omega arith)

no_items : (xs : List ℕ) → length xs ≡ 0 → xs ≡ []
no_items [] is = refl
no_items (x ∷ xs) is = absurd (omega (arith, is))

-- if only separators are left, there is no word
pub parts-end : (p : ℕ → Bool) (xs word : List ℕ) (start : ℕ) → start ≡ prefix_len p xs
    → word ≡ take (length xs - start) (drop start xs) → length word ≡ 0
    → parts p xs ≡ []
parts-end p xs word start gap is none =
    let rest : word ≡ drop (prefix_len p xs) xs = is ∙ take_rest xs start ∙ ap (λ n. drop n xs) gap in
    parts-front p xs ∙ rw (← rest, no_items word none) refl

-- else the word after the separators is the first, and the others are those after it
pub parts-next : (p : ℕ → Bool) (xs word more : List ℕ) (start len : ℕ) → start ≡ prefix_len p xs
    → word ≡ take (length xs - start) (drop start xs) → 0 < length word
    → len ≡ prefix_len (λ b. not (p b)) word → more ≡ take (length word - len) (drop len word)
    → parts p xs ≡ take len word ∷ parts p more
parts-next p xs word more start len gap is some before following =
    let rest : word ≡ drop (prefix_len p xs) xs = is ∙ take_rest xs start ∙ ap (λ n. drop n xs) gap in
    let left : more ≡ drop len word = following ∙ take_rest word len in
    let begins : 0 < first_len p word = rw rest (word-begins p xs (rw rest at some)) in
    parts-front p xs ∙ rw (← rest, left, before) (parts-word p word begins)

-- a word that is cut out ends where it ended
first_len-cut : (p : ℕ → Bool) (xs : List ℕ) → first_len p (take (first_len p xs) xs) ≡ first_len p xs
first_len-cut p [] = refl
first_len-cut p (x ∷ xs) = at (p x) refl (first_len-cut p xs)
  where
    at : (e : Bool) → p x ≡ e → first_len p (take (first_len p xs) xs) ≡ first_len p xs
        → first_len p (take (cond (not e) (1 + first_len p xs) 0) (x ∷ xs)) ≡ cond (not e) (1 + first_len p xs) 0
    at true is others = refl
    at false is others = let more : 1 + first_len p xs ≡ suc (first_len p xs) = omega arith in
        rw (more, is, others) more

-- so it is the only word of itself
cut-alone : (p : ℕ → Bool) (xs : List ℕ) → 0 < first_len p xs
    → parts p (take (first_len p xs) xs) ≡ take (first_len p xs) xs ∷ []
cut-alone p xs some =
    let same : take (first_len p xs) (take (first_len p xs) xs) ≡ take (first_len p xs) xs =
    take_all (first_len p xs) (take (first_len p xs) xs) (omega (arith, length-prefix_len (λ b. not (p b)) xs)) in
    let none : drop (first_len p xs) (take (first_len p xs) xs) ≡ [] =
    drop_all (first_len p xs) (take (first_len p xs) xs) (omega (arith, length-prefix_len (λ b. not (p b)) xs)) in
    parts-word p (take (first_len p xs) xs) (rw first_len-cut some) ∙ rw (first_len-cut, same, none) refl

-- the word after the separators at the front is the only word of itself
pub parts-alone : (p : ℕ → Bool) (xs word : List ℕ) (start len : ℕ) → start ≡ prefix_len p xs
    → word ≡ take (length xs - start) (drop start xs) → 0 < length word
    → len ≡ prefix_len (λ b. not (p b)) word → parts p (take len word) ≡ take len word ∷ []
parts-alone p xs word start len gap is some before =
    let rest : word ≡ drop (prefix_len p xs) xs = is ∙ take_rest xs start ∙ ap (λ n. drop n xs) gap in
    let begins : 0 < first_len p word = rw rest (word-begins p xs (rw rest at some)) in
    rw before (cut-alone p word begins)

-- ---- ignored lines

comment-cut : (word : List ℕ) (len : ℕ) → 0 < len → is_comment (take len word) ≡ is_comment word
comment-cut word zero some = absurd (omega (arith, some))
comment-cut [] (suc len) some = refl
comment-cut (b ∷ bs) (suc len) some = refl

-- whether a line is ignored is seen at the first byte after the separators at its front
pub ignored-next : (p : ℕ → Bool) (xs word : List ℕ) (start : ℕ) → start ≡ prefix_len p xs
    → word ≡ take (length xs - start) (drop start xs) → 0 < length word
    → is_ignored (parts p xs) ≡ is_comment word
ignored-next p xs word start gap is some =
    let len = first_len p word in
    let rest : word ≡ drop (prefix_len p xs) xs = is ∙ take_rest xs start ∙ ap (λ n. drop n xs) gap in
    let begins : 0 < first_len p word = rw rest (word-begins p xs (rw rest at some)) in
    ap (λ each. is_ignored each) (parts-next p xs word
    (take (length word - len) (drop len word)) start len gap is some refl refl) ∙ comment-cut word len begins

-- ---- printable lines

spaces-low : (b : ℕ) → ((b == 32) || (nat_le 33 b && nat_le b 126)) ≡ true → (b == 32) ≡ nat_le b 32
spaces-low b shown = grind (arith, nat_tests)

blanks-low : (b : ℕ) → (((b == 9) || ((b == 13) || (b == 32))) || (nat_le 33 b && nat_le b 126)) ≡ true
    → ((b == 9) || ((b == 13) || (b == 32))) ≡ nat_le b 32
blanks-low b shown = grind (arith, nat_tests)

-- a byte of a printable line is a separator or above 32
separates-low : (s : Separators) (b : ℕ) → (separates s b || (nat_le 33 b && nat_le b 126)) ≡ true
    → separates s b ≡ nat_le b 32
separates-low Spaces b shown = spaces-low b shown
separates-low Blanks b shown = blanks-low b shown

split-low : (s : Separators) (xs : List ℕ) → is_printable s xs ≡ true
    → slice_split (separates s) xs ≡ slice_split (λ b. nat_le b 32) xs
split-low s [] shown = refl
split-low s (x ∷ xs) shown =
    let each = and_parts (separates s x || (nat_le 33 x && nat_le x 126)) (is_printable s xs) shown in
    rw (separates-low s x each.0, split-low s xs each.1) refl

-- so its words are its tokens
pub tokens_of-words : (s : Separators) (xs : List ℕ) → is_printable s xs ≡ true → tokens_of s xs ≡ words_of xs
tokens_of-words s xs shown = ap (λ each. filter is_word each) (split-low s xs shown)

-- ---- tokens that are skipped

-- one token more is skipped
pub skipped : (tokens : List (List ℕ)) (k : ℕ) (token : List ℕ) (rest : List (List ℕ)) → drop k tokens ≡ token ∷ rest
    → (rest ≡ drop (k + 1) tokens) × (k + 1 ≤ length tokens)
skipped [] zero token rest is = absurd (omega (arith, ap length is))
skipped [] (suc k) token rest is = absurd (omega (arith, ap length is))
skipped (first ∷ tokens) zero token rest is = (ap (drop 1) (sym is), omega arith)
skipped (first ∷ tokens) (suc k) token rest is =
    let later = skipped tokens k token rest is in
    let more : suc k + 1 ≡ suc (k + 1) = omega arith in
    (rw more later.0, omega (arith, later.1))

-- none is left to skip
pub too-few : (tokens : List (List ℕ)) (k count : ℕ) → drop k tokens ≡ [] → k < count → length tokens < count
too-few tokens k count none more = omega (arith, none', more, length-drop k tokens)
  where
    none' : length (drop k tokens) ≡ 0
    none' = ap length none
