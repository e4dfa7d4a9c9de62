use Rattle.lot_text.proofs.Common.{ActorRun, All, Err, InputRefusal, List, Ok, each_pair, length, run_of, ◌++◌, ◌≡◌, ◌≤◌}
use Rattle.lot_text.proofs.runs.read_runs.Given as goal

abbrev pub invariant-loop-actor : goal.invariant-loop-actor
invariant-loop-actor l = record {
  actors : All (λ (run : ActorRun). run.actor ≤ l.processors) l.runs.items;
  read : (others : List ActorRun) → each_pair (run_of l.processors) l.tokens ≡ Ok others
      → each_pair (run_of l.processors) l.initial.tokens ≡ Ok (l.runs.items ++ others);
  refused : (refusal : InputRefusal) → each_pair (run_of l.processors) l.tokens ≡ Err refusal
      → each_pair (run_of l.processors) l.initial.tokens ≡ Err refusal;
}

abbrev pub decreases-loop-actor : goal.decreases-loop-actor
decreases-loop-actor l = length l.tokens
