-- The result of a parsing function.
use Rattle.lot_text.proofs.Common.{BadLine, Err, Fails, Gives, InputRefusal, IsErr, IsErrAnd, LineFault, List, MatchResult, Memory, Ok, Refused, Result, append_assoc, each, each_pair, false≢true, length, refl, ℕ, [], ◌++◌, ◌>>=◌, ◌∷◌, ◌≡◌, ◌≢◌}

-- what fails first fails the whole
pub Fails-then : {A B : Type 0} (fault : LineFault) (given : Result A InputRefusal) (next : A → Result B InputRefusal)
    → Fails fault given
    → Fails fault (given >>= next)
Fails-then Memory given next fails = tt
Fails-then (Refused refusal) given next fails = rw fails refl

-- a fault that is handed on fails as it did
pub Gives-fault : {A U : Type 0} (now : A) (r : Result U LineFault) (fault : LineFault) (given : Result A InputRefusal)
    → IsErrAnd r (λ (e : LineFault). e ≡ fault) → IsErr r → Fails fault given → Gives now r given
Gives-fault now (Ok done) fault given is failed fails = absurd (false≢true failed)
Gives-fault now (Err e) fault given is failed fails = rw is fails

-- a refusal that is handed on
pub Gives-refusal : {A U : Type 0} (now : A) (r : Result U LineFault) (refusal : InputRefusal)
    (given : Result A InputRefusal)
    → IsErr r × IsErrAnd r (λ (e : LineFault). e ≡ Refused refusal) → given ≡ Err refusal → Gives now r given
Gives-refusal now r refusal given failed is = Gives-fault now r (Refused refusal) given failed.1 failed.0 is

-- being out of memory, handed on
pub Gives-memory : {A U : Type 0} (now : A) (r : Result U LineFault) (given : Result A InputRefusal)
    → IsErr r × IsErrAnd r (λ (e : LineFault). e ≡ Memory)
    → Gives now r given
Gives-memory now r given failed = Gives-fault now r Memory given failed.1 failed.0 tt

-- the same for a function that returns what it read
pub Match-refusal : {A U : Type 0} (r : Result U LineFault) (P : U → Type 0) (refusal : InputRefusal)
    (given : Result A InputRefusal)
    → IsErr r × IsErrAnd r (λ (e : LineFault). e ≡ Refused refusal) → given ≡ Err refusal
    → MatchResult r P (λ fault. Fails fault given)
Match-refusal (Ok done) P refusal given failed is = absurd (false≢true failed.0)
Match-refusal (Err e) P refusal given failed is = rw failed.1 is

pub Match-memory : {A U : Type 0} (r : Result U LineFault) (P : U → Type 0) (given : Result A InputRefusal)
    → IsErr r × IsErrAnd r (λ (e : LineFault). e ≡ Memory) → MatchResult r P (λ fault. Fails fault given)
Match-memory (Ok done) P given failed = absurd (false≢true failed.0)
Match-memory (Err e) P given failed = rw failed.1 tt

-- a line whose word takes one argument has no other number of them
pub alone-refused : {A : Type 0} (read : List (List ℕ) → Result A InputRefusal) (tokens : List (List ℕ))
    (refusal : InputRefusal) → read [] ≡ Err BadLine
    → ((first second : List ℕ) (others : List (List ℕ)) → read (first ∷ second ∷ others) ≡ Err BadLine)
    → (refusal ≡ BadLine) × (length tokens ≢ 1) → read tokens ≡ Err refusal
alone-refused read [] refusal none more other = rw other.0 none
alone-refused read (token ∷ []) refusal none more other = absurd (other.1 refl)
alone-refused read (first ∷ second ∷ others) refusal none more other = rw other.0 (more first second others)

-- a line whose word takes no argument has none
pub none-refused : {A : Type 0} (read : List (List ℕ) → Result A InputRefusal) (tokens : List (List ℕ))
    (refusal : InputRefusal)
    → ((first : List ℕ) (others : List (List ℕ)) → read (first ∷ others) ≡ Err BadLine)
    → (refusal ≡ BadLine) × (length tokens ≢ 0) → read tokens ≡ Err refusal
none-refused read [] refusal more other = absurd (other.1 refl)
none-refused read (first ∷ others) refusal more other = rw other.0 (more first others)

-- a token is read, and then the others
pub each-more : {A : Type 0} (read : List ℕ → Result A InputRefusal) (tokens rest : List (List ℕ)) (token : List ℕ)
    (x : A) (others : List A)
    → tokens ≡ token ∷ rest → Ok x ≡ read token
    → each read rest ≡ Ok others → each read tokens ≡ Ok (x ∷ others)
each-more read tokens rest token x others is first next = rw (is, ← first, next) refl

-- or one of them isn't
pub each-later : {A : Type 0} (read : List ℕ → Result A InputRefusal) (tokens rest : List (List ℕ)) (token : List ℕ)
    (x : A) (refusal : InputRefusal)
    → tokens ≡ token ∷ rest → Ok x ≡ read token
    → each read rest ≡ Err refusal → each read tokens ≡ Err refusal
each-later read tokens rest token x refusal is first next = rw (is, ← first, next) refl

-- or this one isn't
pub each-refused : {A : Type 0} (read : List ℕ → Result A InputRefusal) (tokens rest : List (List ℕ)) (token : List ℕ)
    (refusal : InputRefusal)
    → tokens ≡ token ∷ rest → Err refusal ≡ read token
    → each read tokens ≡ Err refusal
each-refused read tokens rest token refusal is first = rw (is, ← first) refl

-- the same for pairs
pub pair-more : {A : Type 0} (read : List ℕ → List ℕ → Result A InputRefusal) (tokens rest : List (List ℕ))
    (token partner : List ℕ) (x : A) (others : List A)
    → tokens ≡ token ∷ partner ∷ rest
    → Ok x ≡ read token partner → each_pair read rest ≡ Ok others → each_pair read tokens ≡ Ok (x ∷ others)
pair-more read tokens rest token partner x others is first next = rw (is, ← first, next) refl

pub pair-later : {A : Type 0} (read : List ℕ → List ℕ → Result A InputRefusal) (tokens rest : List (List ℕ))
    (token partner : List ℕ) (x : A) (refusal : InputRefusal) → tokens ≡ token ∷ partner ∷ rest
    → Ok x ≡ read token partner → each_pair read rest ≡ Err refusal → each_pair read tokens ≡ Err refusal
pair-later read tokens rest token partner x refusal is first next = rw (is, ← first, next) refl

pub pair-refused : {A : Type 0} (read : List ℕ → List ℕ → Result A InputRefusal) (tokens rest : List (List ℕ))
    (token partner : List ℕ) (refusal : InputRefusal)
    → tokens ≡ token ∷ partner ∷ rest
    → Err refusal ≡ read token partner → each_pair read tokens ≡ Err refusal
pair-refused read tokens rest token partner refusal is first = rw (is, ← first) refl

-- what was read stays in front
pub more-read : {A : Type 0} (before after : List A) (x : A) (others : List A) (given : Result (List A) InputRefusal)
    → after ≡ before ++ x ∷ []
    → given ≡ Ok (before ++ x ∷ others) → given ≡ Ok (after ++ others)
more-read before after x others given is read = rw (is, append_assoc before (x ∷ []) others) read
