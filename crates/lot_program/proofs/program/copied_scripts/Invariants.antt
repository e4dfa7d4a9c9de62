use Rattle.std.proofs.Common.{◌≡◌, take}
use Rattle.lot_program.proofs.program.copied_scripts.Given as goal

-- those passed so far
abbrev pub invariant-loop-script : goal.invariant-loop-script
invariant-loop-script l = l.copies.items ≡ take l.script-index l.scripts
