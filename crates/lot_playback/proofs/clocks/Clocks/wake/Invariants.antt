use Rattle.lot_playback.proofs.Common.{drop, map, take, woken, ◌++◌, ◌≡◌}
use Rattle.lot_playback.proofs.clocks.Clocks.wake.Given as goal

-- the clocks passed so far are woken
abbrev pub invariant-loop-place : goal.invariant-loop-place
invariant-loop-place l = record {
  time : l.self.time ≡ l.initial.self.time;
  clocks : l.self.processors.items ≡ map (woken l.time) (take l.place l.initial.self.processors.items)
      ++ drop l.place l.initial.self.processors.items;
}
