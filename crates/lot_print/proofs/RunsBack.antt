-- Lines of runs, read again.
use Rattle.lot_print.proofs.Common.{ActorRun, Bool, List, None, Ok, Reading, Some, actors_of, ap, append_assoc, arith, body_after_header, codes, decimal, each_pair, eqb-true, false, flat_map, le-ltb, length, length-actors_of, length-append, length-decimal-le, read_line, refl, run_before, run_of, run_text, runs_in, runs_line, suc, sum_by, true, ℕ, [], ◌%◌, ◌*◌, ◌++◌, ◌+◌, ◌<◌, ◌==◌, ◌^◌, ◌∙◌, ◌∷◌, ◌≡◌, ◌≤◌}
use Rattle.lot_simulation.specs.declared.input.BodyWord.TheVariants as body
use Rattle.lot_print.proofs.GroupLemmas.{Each, IsGroup}
use Rattle.lot_print.proofs.PlainLemmas.{Shown, Words, spaced, Shown-append, Shown-spaced, is_printable-shown, tokens_of-words, some-decimal, Plain-decimal, number_of-decimal}
use Rattle.lot_print.proofs.ReadBack.{AreActors, read_line-words, scheduled}

-- an actor that there is, and as many turns in a row as a history may have
abbrev pub IsRun : ℕ → ℕ → ActorRun → Type 0
IsRun p most run = (run.actor ≤ p) × (1 ≤ run.count) × (run.count ≤ most)

-- the words of the runs
abbrev pub run_words : List ActorRun → List (List ℕ)
run_words [] = []
run_words (run ∷ runs) = decimal run.actor ∷ decimal run.count ∷ run_words runs

Words-runs : (p : ℕ) (runs : List ActorRun) → p ≤ 64 → Each (IsRun p 1000000) runs → Words (run_words runs)
Words-runs p [] few each = tt
Words-runs p (run ∷ runs) few each =
    let actor : run.actor < 2 ^ 64 = omega (arith, few, each.0.0) in
    let count : run.count < 2 ^ 64 = omega (arith, each.0.2) in
    (some-decimal run.actor actor, Plain-decimal run.actor actor, (some-decimal run.count count, Plain-decimal run.count count, Words-runs p runs few each.1))

each_pair-runs : (p : ℕ) (runs : List ActorRun) → p ≤ 64 → Each (IsRun p 1000000) runs
    → each_pair (run_of p) (run_words runs) ≡ Ok runs
each_pair-runs p [] few each = refl
each_pair-runs p (run ∷ runs) few each =
    let actor : run.actor < 2 ^ 64 = omega (arith, few, each.0.0) in
    let count : run.count < 2 ^ 64 = omega (arith, each.0.2) in
    rw (
      number_of-decimal run.actor actor,
      le-ltb p run.actor each.0.0,
      number_of-decimal run.count count,
      le-ltb run.count 1 each.0.1,
      le-ltb 1000000 run.count each.0.2,
      each_pair-runs p runs few each.1,
    ) refl

length-words : (p : ℕ) (runs : List ActorRun) → p ≤ 64 → Each (IsRun p 1000000) runs
    → length (spaced (run_words runs)) ≤ 11 * length runs
length-words p [] few each = omega arith
length-words p (run ∷ runs) few each =
    let a = decimal run.actor in
    let c = decimal run.count in
    let actor : length a ≤ 2 =
    length-decimal-le 2 run.actor (omega arith) (omega (arith, few, each.0.0)) (omega (arith, few, each.0.0)) in
    let count : length c ≤ 7 =
    length-decimal-le 7 run.count (omega arith) (omega (arith, each.0.2)) (omega (arith, each.0.2)) in
    let first : length (a ++ 32 ∷ (c ++ spaced (run_words runs))) ≡ length a
    + suc (length (c ++ spaced (run_words runs))) = length-append a (32 ∷ (c ++ spaced (run_words runs))) in
    let second : length (c ++ spaced (run_words runs)) ≡ length c + length (spaced (run_words runs)) =
    length-append c (spaced (run_words runs)) in
    let whole : length (spaced (run_words (run ∷ runs))) ≡ suc (length (a ++ 32 ∷ (c ++ spaced (run_words runs)))) =
    refl in
    omega (arith, actor, count, first, second, whole, length-words p runs few each.1)

even : (runs : List ActorRun) → length (run_words runs) % 2 ≡ 0
even [] = refl
even (run ∷ runs) =
    let more : length (run_words (run ∷ runs)) ≡ length (run_words runs) + 2 = omega arith in
    omega (arith, more, even runs)

-- ---- a line

-- a line of runs, without its end
abbrev pub runs_text : List ActorRun → List ℕ
runs_text runs = codes "runs" ++ spaced (run_words runs)

run_texts : (runs : List ActorRun) → flat_map run_text runs ≡ spaced (run_words runs)
run_texts [] = refl
run_texts (run ∷ runs) =
    ap (λ (t : List ℕ). 32 ∷ t) (append_assoc (decimal run.actor) (32 ∷ decimal run.count) (flat_map run_text runs)
    ∙ ap (λ (others : List ℕ). decimal run.actor ++ 32 ∷ (decimal run.count ++ others)) (run_texts runs))

pub runs_line-text : (runs : List ActorRun) → runs_line runs ≡ runs_text runs ++ 10 ∷ []
runs_line-text runs = rw (run_texts runs) refl

-- one to 32 runs
abbrev pub IsRunsLine : ℕ → List ActorRun → Type 0
IsRunsLine p runs = IsGroup (IsRun p 1000000) 32 runs

pub Shown-runs : (p : ℕ) → p ≤ 64 → (runs : List ActorRun) → IsRunsLine p runs → Shown (runs_text runs)
Shown-runs p few runs good = Shown-append (codes "runs") (spaced (run_words runs)) (search arith)
    (Shown-spaced (run_words runs) (Words-runs p runs few good.2))

body-runs : (n : ℕ) (r : Reading) (runs : List ActorRun) → r.is_timed ≡ false → r.unit ≡ 256 → r.processors ≤ 64
    → IsRunsLine r.processors runs → length r.schedule + length (actors_of runs) ≤ 1000000
    → body_after_header n r body.Runs (run_words runs) ≡ Ok (scheduled r (actors_of runs))
body-runs n r [] untimed unit few good room = absurd (omega (arith, good.0))
body-runs n r (run ∷ runs) untimed unit few good room =
    let turns : length r.schedule + sum_by (λ (x : ActorRun). x.count) (run ∷ runs) ≤ 1000000 =
    omega (arith, room, length-actors_of (run ∷ runs)) in
    let pairs : (length (run_words (run ∷ runs)) % 2 == 1) ≡ false = rw (even (run ∷ runs)) refl in
    rw (unit, untimed, pairs, each_pair-runs r.processors (run ∷ runs) few good.2, le-ltb 1000000 (length r.schedule + sum_by (λ (x : ActorRun). x.count) (run ∷ runs)) turns) refl

pub read-runs : (p : ℕ) → p ≤ 64 → (n end : ℕ) (r : Reading) (runs : List ActorRun) → IsRunsLine p runs
    → r.unclosed ≡ None → r.is_timed ≡ false → r.processors ≡ p → r.unit ≡ 256
    → length r.schedule + length (actors_of runs) ≤ 1000000 → end ≤ 16777216
    → read_line n end (Some r) (runs_text runs) ≡ Ok (Some (scheduled r (actors_of runs)))
read-runs p few n end r runs good unclosed untimed processors unit room within =
    let words : Words (codes "runs" ∷ run_words runs) = (omega arith, search arith, Words-runs p runs few good.2) in
    let short : length (runs_text runs) ≤ 4096 =
    omega (arith, length-append (codes "runs") (spaced (run_words runs)), length-words p runs few good.2, good.1) in
    read_line-words n end r (scheduled r (actors_of runs)) (runs_text runs) (codes "runs") (run_words runs) body.Runs
    unclosed untimed within short (is_printable-shown (runs_text runs) (Shown-runs p few runs good))
    (tokens_of-words (codes "runs") (run_words runs) words)
    refl refl refl (body-runs n r runs untimed unit (rw processors few) (rw processors good) room)

-- ---- the runs of a history

-- one turn more at the front
actors_of-before : (a : ℕ) (runs : List ActorRun) → actors_of (run_before a runs) ≡ a ∷ actors_of runs
actors_of-before a [] = refl
actors_of-before a (run ∷ runs) = at (run.actor == a) refl
  where
    at : (e : Bool) → (run.actor == a) ≡ e → actors_of (run_before a (run ∷ runs)) ≡ a ∷ actors_of (run ∷ runs)
    at true same =
        let more : run.count + 1 ≡ suc run.count = omega arith in
        let equal : run.actor ≡ a = eqb-true run.actor a same in
        rw (same, more) (ap (λ (x : ℕ). x ∷ actors_of (run ∷ runs)) equal)
    at false other = rw other refl

-- the runs of a history are its turns
pub actors_of-runs_in : (history : List ℕ) → actors_of (runs_in history) ≡ history
actors_of-runs_in [] = refl
actors_of-runs_in (a ∷ actors) = actors_of-before a (runs_in actors)
    ∙ ap (λ (others : List ℕ). a ∷ others) (actors_of-runs_in actors)

more_room : (p n m : ℕ) (runs : List ActorRun) → n ≤ m → Each (IsRun p n) runs → Each (IsRun p m) runs
more_room p n m [] more each = tt
more_room p n m (run ∷ runs) more each =
    ((each.0.0, each.0.1, omega (arith, each.0.2, more)), more_room p n m runs more each.1)

Each-before : (p a n : ℕ) (runs : List ActorRun) → a ≤ p → Each (IsRun p n) runs
    → Each (IsRun p (suc n)) (run_before a runs)
Each-before p a n [] below each = ((below, omega arith, omega arith), tt)
Each-before p a n (run ∷ runs) below each = at (run.actor == a) refl
  where
    at : (e : Bool) → (run.actor == a) ≡ e → Each (IsRun p (suc n)) (run_before a (run ∷ runs))
    at true same =
        rw same ((each.0.0, omega arith, omega (arith, each.0.2)), more_room p n (suc n) runs (omega arith) each.1)
    at false other = rw other ((below, omega arith, omega arith), more_room p n (suc n) (run ∷ runs) (omega arith) each)

pub Each-runs_in : (p : ℕ) (history : List ℕ) → AreActors p history → Each (IsRun p (length history)) (runs_in history)
Each-runs_in p [] below = tt
Each-runs_in p (a ∷ actors) below =
    Each-before p a (length actors) (runs_in actors) below.0 (Each-runs_in p actors below.1)

-- so each of them can be read
pub Each-readable : (p : ℕ) (history : List ℕ) → length history ≤ 1000000 → AreActors p history
    → Each (IsRun p 1000000) (runs_in history)
Each-readable p history few below =
    more_room p (length history) 1000000 (runs_in history) few (Each-runs_in p history below)
