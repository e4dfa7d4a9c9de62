use Rattle.lot_script.proofs.Common.{Passes, ◌-◌, ◌≤◌}
use Rattle.lot_script.proofs.script.Script.pass_slice.Given as goal

abbrev pub invariant-loop-ticks : goal.invariant-loop-ticks
invariant-loop-ticks l = record { within : l.ticks ≤ l.budget; passes : Passes l.self l.initial.place l.place l.ticks }

abbrev pub decreases-loop-ticks : goal.decreases-loop-ticks
decreases-loop-ticks l = l.budget - l.ticks
