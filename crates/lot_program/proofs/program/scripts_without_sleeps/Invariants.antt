use Rattle.lot_program.proofs.Common.{map, take, without_sleep, ◌≡◌}
use Rattle.lot_program.proofs.program.scripts_without_sleeps.Given as goal

-- those passed so far
abbrev pub invariant-loop-script : goal.invariant-loop-script
invariant-loop-script l = l.copies.items ≡ map (map without_sleep) (take l.script-index l.scripts)
