use Rattle.lot_curves.proofs.Common.{stretches_of, take, ◌*◌, ◌^◌, ◌≡◌, ◌≤◌}
use Rattle.lot_curves.specs.Windows as windows
use Rattle.lot_curves.proofs.stretch.had_by.Given as goal

abbrev pub invariant-loop-stretch : goal.invariant-loop-stretch
invariant-loop-stretch l = record {
  had : l.had ≡ windows.had_in l.measure l.window l.tick (stretches_of l.number (take l.stretch-index l.stretches));
  small : l.had ≤ l.stretch-index * 2 ^ 32;
}
