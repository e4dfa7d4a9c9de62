use Rattle.lot_system.proofs.Common.{no_figures, replicate, ◌≡◌}
use Rattle.lot_system.proofs.figures.no_figures.Given as goal

-- those of the subjects passed so far
abbrev pub invariant-loop : goal.invariant-loop
invariant-loop l = l.figures.items ≡ replicate l.counter no_figures
