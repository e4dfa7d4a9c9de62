use Rattle.lot_curves.proofs.Common.{drop, map, stretch_between, take, ◌++◌, ◌≡◌}
use Rattle.lot_curves.proofs.curves.cut.Given as goal

-- the stretches passed so far are cut
abbrev pub invariant-loop-place : goal.invariant-loop-place
invariant-loop-place l = l.stretches ≡ map (stretch_between l.from l.to) (take l.place l.initial.stretches)
    ++ drop l.place l.initial.stretches
