use Rattle.lot_playback.proofs.Common.{clock_after_console, drop, map, range_with_len, world_of, ◌++◌, ◌≡◌}
use Rattle.lot_playback.proofs.clocks.Clocks.follow_console.Given as goal

-- the clocks passed so far are those after the turn
abbrev pub invariant-loop-place : goal.invariant-loop-place
invariant-loop-place l = record {
  time : l.self.time ≡ l.initial.self.time;
  clocks : l.self.processors.items
      ≡ map (clock_after_console (world_of l.system).state l.time l.initial.self.processors.items)
      (range_with_len 1 l.place) ++ drop l.place l.initial.self.processors.items;
}
