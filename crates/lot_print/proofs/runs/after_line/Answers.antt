use Rattle.lot_print.proofs.Common.{ActorRun, List, ap, arith, drop, drop-drop, runs_in, suc, zero, ℕ, ◌<◌, ◌∙◌, ◌≤◌}
use Rattle.lot_print.proofs.runs.after_line.Goals as goal

-- what comes after a part is shorter than the whole
shorter_than : (after rest all : ℕ) → after ≤ rest → (0 < rest → after < rest) → rest ≤ all → 0 < all → after < all
shorter_than after zero all most shorter part some = omega (arith, most, some)
shorter_than after (suc rest) all most shorter part some = omega (arith, shorter (omega arith), part)

pub loop-pair-preserved : goal.loop-pair-preserved
loop-pair-preserved c = record {
  runs = c.after_run-rest.ensures.runs ∙ ap (λ (runs : List ActorRun). drop 1 runs) c.loop-pair.invariant.runs
      ∙ drop-drop 1 c.loop-pair._pair (runs_in c.args.history.now);
  most = omega (arith, c.loop-pair.invariant.most, c.after_run-rest.ensures.most);
  shorter = λ _ some.
      shorter_than _ _ _ c.after_run-rest.ensures.most c.after_run-rest.ensures.shorter c.loop-pair.invariant.most some;
}
