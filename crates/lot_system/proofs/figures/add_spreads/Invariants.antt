use Rattle.lot_system.proofs.Common.{drop, spreads_after, take, ◌++◌, ◌≡◌}
use Rattle.lot_system.proofs.figures.add_spreads.Given as goal

-- the spreads of the columns passed so far have their cells
abbrev pub invariant-loop-place : goal.invariant-loop-place
invariant-loop-place l = l.spreads ≡ take l.place (spreads_after l.fn.spreads l.cells) ++ drop l.place l.fn.spreads
