use Rattle.lot_curves.proofs.Common.{last_end, take, ◌≡◌}
use Rattle.lot_curves.proofs.curves.last_of.Given as goal

abbrev pub invariant-loop-stretch : goal.invariant-loop-stretch
invariant-loop-stretch l = l.last ≡ last_end (take l.stretch-index l.stretches)
