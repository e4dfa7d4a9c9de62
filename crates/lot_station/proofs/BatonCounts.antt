-- The counts of an actor's turns while a history grows.
use Rattle.lot_station.proofs.Common.{ActorTurn, Answer, Answers, Bool, Counts, Extends, List, Program, Seen, Some, World, after_turn, ap, arith, beside, cond, counted, counted-own_more, counted_with, counts_in, false, if◌then◌else◌, inl, inr, length, opening_world, refl, slice_get, suc, sym, system_answers, system_turn, true, turns_by, turns_made, turns_of, zero, ℕ, [], ⊎_elim, ◌++◌, ◌+◌, ◌<◌, ◌==◌, ◌∙◌, ◌∷◌, ◌≡◌, ◌⊎◌}
use Rattle.lot_station.proofs.BatonShares.{turns_by-append, turns_by-cons}

-- the turns of one actor among those that these actors make from this world
own_turns : Program → ℕ → World → List ℕ → List ActorTurn
own_turns program b w h = turns_of b (beside h (system_answers program w h))

-- an actor that isn't there has none
own_turns-none : (program : Program) (b : ℕ) (w : World) (h : List ℕ) → turns_by b h ≡ 0 → own_turns program b w h ≡ []
unfolding own_turns
own_turns-none program b w [] none = refl
own_turns-none program b w (a ∷ h) none =
    kept (a == b) (turns_by b h) (record { actor = a; answer = (system_turn program w a).answer }) (turns_of b
    (beside h (system_answers program (system_turn program w a).world h))) (sym (turns_by-cons b a h) ∙ none)
    (λ rest. own_turns-none program b (system_turn program w a).world h rest)
  where
    kept : (t : Bool) (n : ℕ) (turn : ActorTurn) (others : List ActorTurn) → (if t then 1 else 0) + n ≡ 0
        → (n ≡ 0 → others ≡ []) → cond t (turn ∷ others) others ≡ []
    kept true n turn others sum none = absurd (omega (arith, sum))
    kept false n turn others sum none = none (omega (arith, sum))

-- and turns of others add none
own_turns-still : (program : Program) (b : ℕ) (w : World) (h rest : List ℕ) → turns_by b rest ≡ 0
    → own_turns program b w (h ++ rest) ≡ own_turns program b w h
unfolding own_turns
own_turns-still program b w [] rest none = own_turns-none program b w rest none
own_turns-still program b w (a ∷ h) rest none =
    let first : ActorTurn = record { actor = a; answer = (system_turn program w a).answer } in
    ap (λ l. cond (a == b) (first ∷ l) l) (own_turns-still program b (system_turn program w a).world h rest none)

-- while an actor has no turn, what is counted of its turns stays
pub counts-still : (x s : Seen) (actor : ℕ) → Extends x s → turns_by actor x.history ≡ turns_by actor s.history
    → counts_in x actor ≡ counts_in s actor
unfolding own_turns
counts-still x s actor begins turns =
    let rest = begins.1.0 in
    let none : turns_by actor rest ≡ 0 =
    omega (arith, turns, ap (turns_by actor) begins.1.1, turns_by-append actor s.history rest) in
    (λ i. counted (turns_of actor (turns_made (begins.0 i).program (begins.1.1 i))))
    ∙ ap counted (own_turns-still s.setting.program actor (opening_world s.setting.program) s.history rest none)

-- a turn of its own is counted
pub counts-more : (x : Seen) (actor : ℕ) (answer : Answer) → Answers x actor answer
    → counts_in (after_turn x actor) actor ≡ counted_with (counts_in x actor) answer.reply
counts-more x actor answer answers =
    counted-own_more x.setting.program x.history actor answer.event answer.reply answers.turn

-- a list with one more at its end has it there, and before it what it had
pushed_at : (l : List Counts) (y : Counts) (j : ℕ) → j < length l + 1
    → ((j < length l) × (slice_get (l ++ y ∷ []) j ≡ slice_get l j))
    ⊎ ((j ≡ length l) × (slice_get (l ++ y ∷ []) j ≡ Some y))
pushed_at [] y zero low = inr (refl, refl)
pushed_at [] y (suc j) low = absurd (omega (arith, low))
pushed_at (x ∷ xs) y zero low = inl (omega arith, refl)
pushed_at (x ∷ xs) y (suc j) low =
    ⊎_elim (λ p. inl (omega (arith, p.0), p.1)) (λ p. inr (ap suc p.0, p.1)) (pushed_at xs y j (omega (arith, low)))

-- one actor more is counted
pub counted_one : (x : Seen) (old new : List Counts) (n : ℕ) (y : Counts) → length old ≡ n
    → ((j : ℕ) → j < n → slice_get old j ≡ Some (counts_in x j)) → y ≡ counts_in x n → new ≡ old ++ y ∷ []
    → (j : ℕ) → j < n + 1 → slice_get new j ≡ Some (counts_in x j)
counted_one x old new n y len each is now j low =
    ⊎_elim
    (λ (p : (j < length old) × (slice_get (old ++ y ∷ []) j ≡ slice_get old j)). ap (λ l. slice_get l j) now ∙ p.1
    ∙ each j (omega (arith, p.0, len)))
    (λ (p : (j ≡ length old) × (slice_get (old ++ y ∷ []) j ≡ Some y)). ap (λ l. slice_get l j) now ∙ p.1
    ∙ ap Some (is ∙ ap (counts_in x) (sym (p.0 ∙ len))))
    (pushed_at old y j (omega (arith, low, len)))
