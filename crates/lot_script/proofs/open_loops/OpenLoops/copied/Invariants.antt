use Rattle.std.proofs.Common.{◌≡◌, take}
use Rattle.lot_script.proofs.open_loops.OpenLoops.copied.Given as goal

abbrev pub invariant-loop-open : goal.invariant-loop-open
invariant-loop-open l = l.stack.items ≡ take l.open-index l.open-items
