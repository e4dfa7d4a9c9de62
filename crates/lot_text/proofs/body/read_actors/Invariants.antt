use Rattle.lot_text.proofs.Common.{All, Err, InputRefusal, List, Ok, actor_below, each, length, ℕ, ◌++◌, ◌≡◌, ◌≤◌}
use Rattle.lot_text.proofs.body.read_actors.Given as goal

abbrev pub invariant-loop-token : goal.invariant-loop-token
invariant-loop-token l = record {
  below : All (λ (actor : ℕ). actor ≤ l.processors) l.actors.items;
  read : (others : List ℕ) → each (actor_below l.processors) l.tokens ≡ Ok others
      → each (actor_below l.processors) l.initial.tokens ≡ Ok (l.actors.items ++ others);
  refused : (refusal : InputRefusal) → each (actor_below l.processors) l.tokens ≡ Err refusal
      → each (actor_below l.processors) l.initial.tokens ≡ Err refusal;
}

abbrev pub decreases-loop-token : goal.decreases-loop-token
decreases-loop-token l = length l.tokens
