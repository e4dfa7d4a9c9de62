use Rattle.lot_text.proofs.Common.{ActorRun, drop, sum_by, ◌+◌, ◌≡◌}
use Rattle.lot_text.proofs.runs.have_room.Given as goal

abbrev pub invariant-loop-run : goal.invariant-loop-run
invariant-loop-run l = sum_by (λ (run : ActorRun). run.count) (drop l.run-index l.runs) + l.room
    ≡ sum_by (λ (run : ActorRun). run.count) l.runs + l.left
