use Rattle.lot_script.proofs.Common.{open_at, ◌≡◌}
use Rattle.lot_script.proofs.script.Script.open_at.Given as goal

abbrev pub invariant-loop-number : goal.invariant-loop-number
invariant-loop-number l = l.loops ≡ open_at l.self l.number
