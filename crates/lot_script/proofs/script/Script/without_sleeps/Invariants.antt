use Rattle.lot_script.proofs.Common.{map, take, without_sleep, ◌≡◌}
use Rattle.lot_script.proofs.script.Script.without_sleeps.Given as goal

abbrev pub invariant-loop-line : goal.invariant-loop-line
invariant-loop-line l = l.lines.items ≡ map without_sleep (take l.line-index l.line-items)
