use Rattle.lot_text.proofs.Lemmas.{ActorRun, All-nil, All-push, All-same, Match-memory, Match-refusal, Ok, ap, append-nil, each_pair-none, more-read, pair-later, pair-more, pair-refused, run_of, [], ◌∙◌, ◌∷◌, ◌≤◌}
use Rattle.lot_text.proofs.runs.read_runs.Goals as goal

pub returns-clause-read : goal.returns-clause-read
returns-clause-read c =
    c.loop-actor.invariant.read [] (each_pair-none _ c.loop-actor.tokens c.in_default.ensures)
    ∙ ap Ok (append-nil c.loop-actor.runs.items)

pub loop-actor-init : goal.loop-actor-init
loop-actor-init c =
    rw c.new-runs.ensures.items
    (record { actors = All-nil (λ (run : ActorRun). run.actor ≤ c.args.processors); read = λ others is. is; refused = λ refusal is. is })

pub returns-in_err-run_of-clause-read : goal.returns-in_err-run_of-clause-read
returns-in_err-run_of-clause-read c =
    let refused =
    pair-refused (run_of c.args.processors) c.loop-actor.tokens c.next_pair.new.self c.in-Some.actor.now
    c.in-Some.count.now c.in_err-run_of.field-0.0
    c.in-Some.ensures c.in_err-run_of.ensures.read in
    Match-refusal c.from_residual.result _ c.in_err-run_of.field-0.0 _ c.from_residual.ensures
    (c.loop-actor.invariant.refused c.in_err-run_of.field-0.0 refused)

pub loop-actor-preserved : goal.loop-actor-preserved
loop-actor-preserved c = record {
  actors = All-same (λ (run : ActorRun). run.actor ≤ c.args.processors) _ _ c.in_ok-push.ensures.items
      (All-push (λ (run : ActorRun). run.actor ≤ c.args.processors) c.loop-actor.runs.items c.in_ok-run_of.field-0
      c.loop-actor.invariant.actors c.in_ok-run_of.ensures.actor);
  read = λ others is.
      let more =
      pair-more (run_of c.args.processors) c.loop-actor.tokens c.next_pair.new.self c.in-Some.actor.now
      c.in-Some.count.now c.in_ok-run_of.field-0 others
      c.in-Some.ensures c.in_ok-run_of.ensures.read is in
      more-read c.loop-actor.runs.items c.push.new.self.items c.in_ok-run_of.field-0 others _ c.in_ok-push.ensures.items
      (c.loop-actor.invariant.read (c.in_ok-run_of.field-0 ∷ others) more);
  refused = λ refusal is.
      c.loop-actor.invariant.refused refusal
      (pair-later (run_of c.args.processors) c.loop-actor.tokens c.next_pair.new.self c.in-Some.actor.now
      c.in-Some.count.now c.in_ok-run_of.field-0 refusal c.in-Some.ensures c.in_ok-run_of.ensures.read is);
}

pub returns-in_err-push-clause-read : goal.returns-in_err-push-clause-read
returns-in_err-push-clause-read c =
    Match-memory c.from_residual-in_err-push.result _ _ c.from_residual-in_err-push.ensures
