use Rattle.lot_text.proofs.Lemmas.{All-nil, All-push, All-same, Match-memory, Match-refusal, Ok, actor_below, ap, append-nil, each-later, each-more, each-refused, more-read, ℕ, [], ◌∙◌, ◌∷◌, ◌≤◌}
use Rattle.lot_text.proofs.body.read_actors.Goals as goal

pub returns-clause-read : goal.returns-clause-read
returns-clause-read c = c.loop-token.invariant.read [] (rw c.in_default.ensures.next.0)
    ∙ ap Ok (append-nil c.loop-token.actors.items)

pub loop-token-init : goal.loop-token-init
loop-token-init c =
    rw c.in_ok-actors.ensures.items
    (record { below = All-nil (λ (actor : ℕ). actor ≤ c.args.processors); read = λ others is. is; refused = λ refusal is. is })

pub returns-in_err-actor_below-clause-read : goal.returns-in_err-actor_below-clause-read
returns-in_err-actor_below-clause-read c =
    let refused =
    each-refused (actor_below c.args.processors) c.loop-token.tokens c.next_token.new.self c.in-Some.token.now
    c.in_err-actor_below.field-0.0
    c.in-Some.ensures.next c.in_err-actor_below.ensures.read in
    Match-refusal c.from_residual-in_err-actor_below.result _ c.in_err-actor_below.field-0.0 _
    c.from_residual-in_err-actor_below.ensures
    (c.loop-token.invariant.refused c.in_err-actor_below.field-0.0 refused)

pub loop-token-preserved : goal.loop-token-preserved
loop-token-preserved c = record {
  below = All-same (λ (actor : ℕ). actor ≤ c.args.processors) _ _ c.in_ok-push.ensures.items
      (All-push (λ (actor : ℕ). actor ≤ c.args.processors) c.loop-token.actors.items c.in_ok-actor_below.field-0
      c.loop-token.invariant.below c.in_ok-actor_below.ensures.below);
  read = λ others is.
      let more =
      each-more (actor_below c.args.processors) c.loop-token.tokens c.next_token.new.self c.in-Some.token.now
      c.in_ok-actor_below.field-0 others
      c.in-Some.ensures.next c.in_ok-actor_below.ensures.read is in
      more-read c.loop-token.actors.items c.push.new.self.items c.in_ok-actor_below.field-0 others _
      c.in_ok-push.ensures.items
      (c.loop-token.invariant.read (c.in_ok-actor_below.field-0 ∷ others) more);
  refused = λ refusal is.
      c.loop-token.invariant.refused refusal
      (each-later (actor_below c.args.processors) c.loop-token.tokens c.next_token.new.self c.in-Some.token.now
      c.in_ok-actor_below.field-0 refusal c.in-Some.ensures.next c.in_ok-actor_below.ensures.read is);
}

pub returns-in_err-push-clause-read : goal.returns-in_err-push-clause-read
returns-in_err-push-clause-read c =
    Match-memory c.from_residual-in_err-push.result _ _ c.from_residual-in_err-push.ensures

pub returns-in_err-actors-clause-read : goal.returns-in_err-actors-clause-read
returns-in_err-actors-clause-read c = Match-memory c.from_residual.result _ _ c.from_residual.ensures
