-- Runs of turns of one actor.
use Rattle.lot_text.proofs.Common.{ActorRun, All, All-append, All-head, All-nil, All-replicate, All-tail, BadLine, Bool, Err, InputRefusal, IsTrue, List, Ok, Reading, Result, actors_of, add_runs, after_header, append-nil, arith, body_after_header, each_pair, eq-eqb, false, flat_map-append, get_or, length, not, not-false, not-true, pairs_added, refl, replicate, run_of, sym, take, take_more, true, true≢false, ℕ, [], ◌%◌, ◌++◌, ◌+◌, ◌<◌, ◌==◌, ◌||◌, ◌↔◌, ◌∙◌, ◌∷◌, ◌≡◌, ◌≤◌}
use Rattle.lot_simulation.specs.declared.input.BodyWord.TheVariants as body

-- fewer than two tokens are no pair
pub each_pair-none : {A : Type 0} (read : List ℕ → List ℕ → Result A InputRefusal) (tokens : List (List ℕ))
    → length tokens ≤ 1 → each_pair read tokens ≡ Ok []
each_pair-none read [] few = refl
each_pair-none read (token ∷ []) few = refl
each_pair-none read (first ∷ second ∷ tokens) few = absurd (omega (arith, few))

-- the actors are those of the runs
pub All-actors_of : (p : ℕ) (runs : List ActorRun) → All (λ (run : ActorRun). run.actor ≤ p) runs
    → All (λ (actor : ℕ). actor ≤ p) (actors_of runs)
All-actors_of p [] each = All-nil _
All-actors_of p (run ∷ runs) each =
    All-append (λ (a : ℕ). a ≤ p) (replicate run.count run.actor) (actors_of runs)
    (All-replicate (λ (a : ℕ). a ≤ p) run.count run.actor (All-head (λ (r : ActorRun). r.actor ≤ p) run runs each))
    (All-actors_of p runs (All-tail (λ (r : ActorRun). r.actor ≤ p) run runs each))

-- one more run has its actor as often as it has turns
pub actors_of-more : (runs : List ActorRun) (i : ℕ) (run item : ActorRun) → i < length runs → run ≡ item
    → item ≡ get_or runs i item
    → actors_of (take (i + 1) runs) ≡ actors_of (take i runs) ++ replicate run.count run.actor
actors_of-more runs i run item within same is =
    rw (
      same,
      take_more runs i item within,
      ← is,
      flat_map-append (λ (r : ActorRun). replicate r.count r.actor) (take i runs) (item ∷ []),
      append-nil (replicate item.count item.actor),
    ) refl

-- an odd number of tokens is refused, and so is a line of runs if the unit is 1 or turns come in the order of time: else the runs are read, and then added
pub runs_line-pairs : (n : ℕ) (before r : Reading) (tokens : List (List ℕ)) (is_empty has_runs are_pairs : Bool)
    → before ≡ r
    → IsTrue is_empty ↔ (length tokens ≡ 0) → is_empty ≡ false → has_runs ≡ not (before.unit == 1 || before.is_timed)
    → has_runs ≡ true → IsTrue are_pairs ↔
    (length tokens % 2 ≡ 0) → are_pairs ≡ true
    → body_after_header n r body.Runs tokens ≡ after_header (pairs_added r tokens)
runs_line-pairs n before r [] is_empty has_runs are_pairs same empty none runs has pairs all =
    absurd (true≢false (sym (empty.1 refl) ∙ none))
runs_line-pairs n before r (first ∷ others) is_empty has_runs are_pairs same empty none runs has pairs all =
    let even : (length (first ∷ others) % 2 == 1) ≡ false = rw (pairs.0 all) refl in
    let fitting : (r.unit == 1 || r.is_timed) ≡ false =
    rw (← same) (not-true (before.unit == 1 || before.is_timed) (sym runs ∙ has)) in
    rw (fitting, even) refl

-- runs that were read are added
pub pairs_added-read : (before r : Reading) (tokens : List (List ℕ)) (runs : List ActorRun) → before ≡ r
    → each_pair (run_of before.processors) tokens ≡ Ok runs
    → pairs_added r tokens ≡ add_runs r runs
pairs_added-read before r tokens runs same read = rw (← same, read) refl

-- a line of runs without tokens is refused
pub runs_line-none : (n : ℕ) (r : Reading) (tokens : List (List ℕ)) (is_empty : Bool)
    → IsTrue is_empty ↔ (length tokens ≡ 0) → is_empty ≡ true
    → body_after_header n r body.Runs tokens ≡ Err BadLine
runs_line-none n r [] is_empty empty none = refl
runs_line-none n r (first ∷ others) is_empty empty none = absurd (omega (arith, empty.0 none))

-- so is one of an input without runs
pub runs_line-without : (n : ℕ) (before r : Reading) (tokens : List (List ℕ)) (has_runs : Bool) → before ≡ r
    → has_runs ≡ not (before.unit == 1 || before.is_timed) → has_runs ≡ false
    → body_after_header n r body.Runs tokens ≡ Err BadLine
runs_line-without n before r [] has_runs same runs none = refl
runs_line-without n before r (first ∷ others) has_runs same runs none =
    let refused : (r.unit == 1 || r.is_timed) ≡ true =
    rw (← same) (not-false (before.unit == 1 || before.is_timed) (sym runs ∙ none)) in
    rw refused refl

-- and one with an odd number of tokens
pub runs_line-odd : (n : ℕ) (r : Reading) (tokens : List (List ℕ)) (are_pairs : Bool)
    → IsTrue are_pairs ↔ (length tokens % 2 ≡ 0) → are_pairs ≡ false
    → body_after_header n r body.Runs tokens ≡ Err BadLine
runs_line-odd n r [] are_pairs pairs odd = refl
runs_line-odd n r (first ∷ others) are_pairs pairs odd =
    let ne : length (first ∷ others) % 2 ≡ 0 → ⊥ = λ even. true≢false (sym (pairs.1 even) ∙ odd) in
    let one : (length (first ∷ others) % 2 == 1) ≡ true = eq-eqb (length (first ∷ others) % 2) 1 (omega (arith, ne)) in
    at one (r.unit == 1 || r.is_timed) refl
  where
    at : (length (first ∷ others) % 2 == 1) ≡ true → (b : Bool) → (r.unit == 1 || r.is_timed) ≡ b
        → body_after_header n r body.Runs (first ∷ others) ≡ Err BadLine
    at one true is = rw is refl
    at one false is = rw (is, one) refl
