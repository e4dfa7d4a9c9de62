-- The printed lines of a history, read again.
use Rattle.lot_print.proofs.Common.{BodyWord, InputRefusal, List, None, Ok, Reading, Result, Some, Spaces, actor_below, actor_text, ap, append-nil, append_assoc, arith, body_after_header, body_place, body_words, codes, decimal, each, false, flat_map, header_words, is_comment, is_printable, le-ltb, length, length-append, length-decimal-le, lines_of, map, read_line, read_lines, refl, schedule_line, suc, tokens_of, true, word_in, ℕ, [], ◌*◌, ◌++◌, ◌+◌, ◌<◌, ◌>>=◌, ◌^◌, ◌∙◌, ◌∷◌, ◌≡◌, ◌≤◌}
use Rattle.lot_simulation.specs.declared.input.BodyWord.TheVariants as body
use Rattle.lot_print.proofs.GroupLemmas.{Each, IsGroup}
use Rattle.lot_print.proofs.PlainLemmas.{Shown, Words, spaced, Shown-append, Shown-spaced, is_printable-shown, lines_of-line, without_end-line, tokens_of-words, some-decimal, Plain-decimal, number_of-decimal}

-- what was read, and a line of these actors more
abbrev pub scheduled : Reading → List ℕ → Reading
scheduled r actors = record r { schedule = r.schedule ++ actors; place = body_place }

-- ---- one line

-- a line of the body is read by its word
pub read_line-words : (n end : ℕ) (r after : Reading) (line w : List ℕ) (ws : List (List ℕ)) (word : BodyWord)
    → r.unclosed ≡ None → r.is_timed ≡ false → end ≤ 16777216 → length line ≤ 4096 → is_printable Spaces line ≡ true
    → tokens_of Spaces line ≡ w ∷ ws
    → is_comment w ≡ false → word_in header_words w ≡ None → word_in body_words w ≡ Some word
    → body_after_header n r word ws ≡ Ok after
    → read_line n end (Some r) line ≡ Ok (Some after)
read_line-words n end r after line w ws word unclosed untimed within short printable tokens comment header known read =
    let by_word : read_line n end (Some r) line ≡ (body_after_header n r word ws >>= λ (now : Reading). Ok (Some now)) =
    rw (le-ltb 4096 (length line) short, le-ltb 16777216 end within, untimed, tokens, comment, printable, tokens, unclosed, header, known) refl in
    by_word ∙ ap (λ (given : Result Reading InputRefusal). given >>= λ (now : Reading). Ok (Some now)) read

-- the first line is read, and then the others
read_lines-line : (n start : ℕ) (r after : Reading) (line rest : List ℕ) → Shown line
    → read_line n (start + (length line + 1)) (Some r) line ≡ Ok (Some after)
    → read_lines n start (Some r) (lines_of (line ++ 10 ∷ rest)) ≡ read_lines (n + 1) (start + (length line + 1))
    (Some after) (lines_of rest)
read_lines-line n start r after line rest shown read =
    let len : length (line ++ 10 ∷ []) ≡ length line + 1 = length-append line (10 ∷ []) in
    rw (lines_of-line line rest shown, len, without_end-line line shown, read) refl

-- ---- many lines

-- Lines that are each read as actors more are together read as all of them.
pub read-blocks : {X : Type 0} (text content : X → List ℕ) (Good : X → Type 0) (p u : ℕ)
    → ((x : X) → Good x → Shown (text x))
    → ((n end : ℕ) (r : Reading) (x : X) → Good x → r.unclosed ≡ None → r.is_timed ≡ false → r.processors ≡ p
    → r.unit ≡ u → length r.schedule + length (content x) ≤ 1000000 → end ≤ 16777216
    → read_line n end (Some r) (text x) ≡ Ok (Some (scheduled r (content x))))
    → (n start : ℕ) (r : Reading) (xs : List X) → Each Good xs → r.unclosed ≡ None → r.is_timed ≡ false
    → r.processors ≡ p → r.unit ≡ u
    → length r.schedule + length (flat_map content xs) ≤ 1000000
    → start + length (flat_map (λ x. text x ++ 10 ∷ []) xs) ≤ 16777216
    → (after : Reading)
    × (read_lines n start (Some r) (lines_of (flat_map (λ x. text x ++ 10 ∷ []) xs)) ≡ Ok (Some after))
    × (after ≡ record r { schedule = r.schedule ++ flat_map content xs; place = after.place })
read-blocks text content Good p u shown reads n start r [] good unclosed untimed processors unit room within =
    (r, refl, rw (append-nil r.schedule) refl)
read-blocks {X} text content Good p u shown reads n start r (x ∷ xs) good unclosed untimed processors unit room within =
    let others : List ℕ = flat_map (λ (y : X). text y ++ 10 ∷ []) xs in
    let all : length ((text x ++ 10 ∷ []) ++ others) ≡ length (text x) + 1 + length others =
    length-append (text x ++ 10 ∷ []) others ∙ ap (λ k. k + length others) (length-append (text x) (10 ∷ [])) in
    let turns : length (content x ++ flat_map content xs) ≡ length (content x) + length (flat_map content xs) =
    length-append (content x) (flat_map content xs) in
    let more : length (r.schedule ++ content x) ≡ length r.schedule + length (content x) =
    length-append r.schedule (content x) in
    let first : read_line n (start + (length (text x) + 1)) (Some r) (text x) ≡ Ok (Some (scheduled r (content x))) =
    reads n (start + (length (text x) + 1)) r x good.0 unclosed untimed processors unit (omega (arith, room, turns))
    (omega (arith, within, all)) in
    let rest = read-blocks text content Good p u shown reads (n + 1) (start + (length (text x) + 1))
    (scheduled r (content x)) xs good.1 unclosed untimed processors unit
    (omega (arith, room, turns, more)) (omega (arith, within, all)) in (
      rest.0,
      ap (λ (bytes : List ℕ). read_lines n start (Some r) (lines_of bytes)) (append_assoc (text x) (10 ∷ []) others)
          ∙ read_lines-line n start r (scheduled r (content x)) (text x) others (shown x good.0) first
          ∙ rest.1,
      rest.2 ∙ ap (λ (actors : List ℕ). record r { schedule = actors; place = rest.0.place })
          (append_assoc r.schedule (content x) (flat_map content xs)),
    )

-- ---- lines of actors

-- the actors are no more than this
abbrev pub AreActors : ℕ → List ℕ → Type 0
AreActors p actors = Each (λ actor. actor ≤ p) actors

pub Words-actors : (p : ℕ) (actors : List ℕ) → p ≤ 64 → AreActors p actors → Words (map decimal actors)
Words-actors p [] few below = tt
Words-actors p (a ∷ actors) few below =
    let small : a < 2 ^ 64 = omega (arith, few, below.0) in
    (some-decimal a small, Plain-decimal a small, Words-actors p actors few below.1)

each-actors : (p : ℕ) (actors : List ℕ) → p ≤ 64 → AreActors p actors
    → each (actor_below p) (map decimal actors) ≡ Ok actors
each-actors p [] few below = refl
each-actors p (a ∷ actors) few below =
    let small : a < 2 ^ 64 = omega (arith, few, below.0) in
    rw (number_of-decimal a small, le-ltb p a below.0, each-actors p actors few below.1) refl

length-actors : (p : ℕ) (actors : List ℕ) → p ≤ 64 → AreActors p actors
    → length (spaced (map decimal actors)) ≤ 3 * length actors
length-actors p [] few below = omega arith
length-actors p (a ∷ actors) few below =
    let digits : length (decimal a) ≤ 2 =
    length-decimal-le 2 a (omega arith) (omega (arith, few, below.0)) (omega (arith, few, below.0)) in
    let whole : length (spaced (map decimal (a ∷ actors))) ≡ suc (length (decimal a)
    + length (spaced (map decimal actors))) = ap suc (length-append (decimal a) (spaced (map decimal actors))) in
    omega (arith, digits, whole, length-actors p actors few below.1)

-- a line of actors, without its end
abbrev pub schedule_text : List ℕ → List ℕ
schedule_text actors = codes "schedule" ++ spaced (map decimal actors)

actor_texts : (actors : List ℕ) → flat_map actor_text actors ≡ spaced (map decimal actors)
actor_texts [] = refl
actor_texts (a ∷ actors) = ap (λ (others : List ℕ). 32 ∷ (decimal a ++ others)) (actor_texts actors)

pub schedule_line-text : (actors : List ℕ) → schedule_line actors ≡ schedule_text actors ++ 10 ∷ []
schedule_line-text actors = rw (actor_texts actors) refl

-- one to 64 actors
abbrev pub IsSchedule : ℕ → List ℕ → Type 0
IsSchedule p actors = IsGroup (λ actor. actor ≤ p) 64 actors

Words-schedule : (p : ℕ) (actors : List ℕ) → p ≤ 64 → IsSchedule p actors
    → Words (codes "schedule" ∷ map decimal actors)
Words-schedule p actors few good = (omega arith, search arith, Words-actors p actors few good.2)

pub Shown-schedule : (p : ℕ) → p ≤ 64 → (actors : List ℕ) → IsSchedule p actors → Shown (schedule_text actors)
Shown-schedule p few actors good = Shown-append (codes "schedule") (spaced (map decimal actors)) (search arith)
    (Shown-spaced (map decimal actors) (Words-actors p actors few good.2))

body-schedule : (n : ℕ) (r : Reading) (actors : List ℕ) → r.is_timed ≡ false → r.processors ≤ 64
    → IsSchedule r.processors actors → length r.schedule + length actors ≤ 1000000
    → body_after_header n r body.Schedule (map decimal actors) ≡ Ok (scheduled r actors)
body-schedule n r [] untimed few good room = absurd (omega (arith, good.0))
body-schedule n r (a ∷ actors) untimed few good room =
    rw (untimed, each-actors r.processors (a ∷ actors) few good.2, le-ltb 1000000 (length r.schedule + length (a ∷ actors)) room) refl

pub read-schedule : (p : ℕ) → p ≤ 64 → (n end : ℕ) (r : Reading) (actors : List ℕ) → IsSchedule p actors
    → r.unclosed ≡ None → r.is_timed ≡ false → r.processors ≡ p
    → length r.schedule + length actors ≤ 1000000 → end ≤ 16777216
    → read_line n end (Some r) (schedule_text actors) ≡ Ok (Some (scheduled r actors))
read-schedule p few n end r actors good unclosed untimed processors room within =
    let words = Words-schedule p actors few good in
    let short : length (schedule_text actors) ≤ 4096 = omega
    (arith, length-append (codes "schedule") (spaced (map decimal actors)), length-actors p actors few good.2, good.1) in
    read_line-words n end r (scheduled r actors) (schedule_text actors) (codes "schedule")
    (map decimal actors) body.Schedule
    unclosed untimed within short (is_printable-shown (schedule_text actors) (Shown-schedule p few actors good))
    (tokens_of-words (codes "schedule") (map decimal actors) words)
    refl refl refl (body-schedule n r actors untimed (rw processors few) (rw processors good) room)
