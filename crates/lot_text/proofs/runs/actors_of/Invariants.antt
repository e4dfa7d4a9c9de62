use Rattle.lot_text.proofs.Common.{actors_of, take, ◌≡◌}
use Rattle.lot_text.proofs.runs.actors_of.Given as goal

abbrev pub invariant-loop-run : goal.invariant-loop-run
invariant-loop-run l = l.actors.items ≡ actors_of (take l.run-index l.runs)
