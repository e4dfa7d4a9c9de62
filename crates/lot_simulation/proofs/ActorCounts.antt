-- The counts of all actors' turns add up to the counts of all turns.
use Rattle.lot_simulation.proofs.Common.{ActorTurn, All, All-cons, All-head, All-nil, All-tail, All-weaker, IsLegal, List, Program, Reply, World, ap, arith, beside, cond, count_in, eq-eqb, length, ne_eqb, opening_world, range_with_len, refl, suc, sum-filter, sum-one, sum-same, sum-swap, sum_by, sum_by-cons, sym, system_answers, system_turn, total_of, turns_made, turns_of, ℕ, [], ◌+◌, ◌<◌, ◌==◌, ◌∙◌, ◌∷◌, ◌≡◌, ◌≤◌}

-- ---- turns of actors below n

module _ (n : ℕ) where
  -- the turn counts at its own actor, and nowhere else
  own : (g : ActorTurn → ℕ) (turn : ActorTurn) → turn.actor < n
      → sum_by (λ actor. cond (turn.actor == actor) (g turn) 0) (range_with_len 0 n) ≡ g turn
  own g turn below =
      sum-one (λ actor. turn.actor == actor) (g turn) turn.actor (λ k differs. ne_eqb turn.actor k
      (λ same. differs (sym same))) (eq-eqb turn.actor turn.actor refl) 0 n (omega arith) (omega (arith, below))

  each-own : (g : ActorTurn → ℕ) (turns : List ActorTurn) → All (λ turn. turn.actor < n) turns
      → sum_by (λ turn. sum_by (λ actor. cond (turn.actor == actor) (g turn) 0) (range_with_len 0 n)) turns
      ≡ sum_by g turns
  each-own g [] below = refl
  each-own g (turn ∷ turns) below =
      let first = own g turn (All-head (λ (t : ActorTurn). t.actor < n) turn turns below) in
      let others = each-own g turns (All-tail (λ (t : ActorTurn). t.actor < n) turn turns below) in
      sum_by-cons (λ t. sum_by (λ actor. cond (t.actor == actor) (g t) 0) (range_with_len 0 n)) turn turns
      ∙ ap (λ k. k + sum_by (λ t. sum_by (λ actor. cond (t.actor == actor) (g t) 0) (range_with_len 0 n)) turns) first
      ∙ ap (λ k. g turn + k) others ∙ sym (sum_by-cons g turn turns)

  -- whatever is counted of a turn
  pub actors-add_up : (g : ActorTurn → ℕ) (turns : List ActorTurn) → All (λ turn. turn.actor < n) turns
      → sum_by (λ actor. sum_by g (turns_of actor turns)) (range_with_len 0 n) ≡ sum_by g turns
  actors-add_up g turns below =
      sum-same (λ actor. sum_by g (turns_of actor turns)) (λ actor. sum_by (λ turn. cond (turn.actor == actor)
      (g turn) 0) turns) (range_with_len 0 n) (λ actor. sum-filter g (λ (turn : ActorTurn). turn.actor == actor) turns)
      ∙ sum-swap (λ actor (turn : ActorTurn). cond (turn.actor == actor) (g turn) 0) (range_with_len 0 n) turns
      ∙ each-own g turns below

  -- what is counted in replies
  pub counts-add_up : (count : Reply → ℕ) (turns : List ActorTurn) → All (λ turn. turn.actor < n) turns
      → sum_by (λ actor. total_of count (turns_of actor turns)) (range_with_len 0 n) ≡ total_of count turns
  counts-add_up count turns below = actors-add_up (λ turn. count_in count turn.answer) turns below

  -- how many turns there are
  pub lengths-add_up : (turns : List ActorTurn) → All (λ turn. turn.actor < n) turns
      → sum_by (λ actor. length (turns_of actor turns)) (range_with_len 0 n) ≡ length turns
  lengths-add_up turns below =
      sum-same (λ actor. length (turns_of actor turns)) (λ actor. sum_by (λ turn. 1) (turns_of actor turns))
      (range_with_len 0 n) (λ actor. sym (sum-ones (turns_of actor turns)))
      ∙ actors-add_up (λ turn. 1) turns below ∙ sum-ones turns
    where
      sum-ones : (some : List ActorTurn) → sum_by (λ turn. 1) some ≡ length some
      sum-ones [] = refl
      sum-ones (turn ∷ others) = omega (arith, sum_by-cons (λ (t : ActorTurn). 1) turn others, sum-ones others)

-- ---- turns of a history

module _ (program : Program) where
  beside-actors : (w : World) (n : ℕ) (actors : List ℕ) → All (λ actor. actor < n) actors
      → All (λ turn. turn.actor < n) (beside actors (system_answers program w actors))
  beside-actors w n [] below = All-nil (λ (turn : ActorTurn). turn.actor < n)
  beside-actors w n (actor ∷ actors) below =
      All-cons (λ (turn : ActorTurn). turn.actor < n) _ _ (All-head (λ a. a < n) actor actors below)
      (beside-actors (system_turn program w actor).world n actors (All-tail (λ a. a < n) actor actors below))

  beside-length : (w : World) (actors : List ℕ)
      → length (beside actors (system_answers program w actors)) ≡ length actors
  beside-length w [] = refl
  beside-length w (actor ∷ actors) = ap suc (beside-length (system_turn program w actor).world actors)

  -- each turn of a legal history is the console's or a processor's
  pub turns_made-actors : (room : ℕ) (history : List ℕ) → IsLegal program room history
      → All (λ turn. turn.actor < program.limits.processors + 1) (turns_made program history)
  turns_made-actors room history legal =
      beside-actors (opening_world program) (program.limits.processors + 1) history
      (All-weaker (λ actor. actor ≤ program.limits.processors) (λ actor. actor < program.limits.processors + 1)
      (λ actor low. omega (arith, low)) history legal.actors)

  -- as many turns as actors
  pub turns_made-length : (history : List ℕ) → length (turns_made program history) ≡ length history
  turns_made-length history = beside-length (opening_world program) history
