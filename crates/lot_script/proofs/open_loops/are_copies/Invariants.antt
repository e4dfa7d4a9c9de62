use Rattle.lot_script.proofs.Common.{AreCopies, reverse, take}
use Rattle.lot_script.proofs.open_loops.are_copies.Given as goal

abbrev pub invariant-loop-i : goal.invariant-loop-i
invariant-loop-i l = AreCopies (reverse (take l.i l.loops)) (reverse (take l.i l.firsts))
