use Rattle.lot_system.proofs.Common.{HasMade, List, MadeTurn, length, program_turns, turns_left, ◌++◌, ◌≡◌}
use Rattle.lot_system.proofs.playing.play_through.Given as goal

-- some of the program's turns are made, and observed, and the others are left
abbrev pub invariant-loop-next : goal.invariant-loop-next
invariant-loop-next g l = record {
  setting : l.playback.seen.setting ≡ l.initial.playback.seen.setting;
  observed : (turns : List MadeTurn) × (program_turns l.program ≡ turns ++ turns_left l.playback)
      × HasMade l.program turns l.playback.seen × g.O.Observer.observed l.program turns l.initial.observer l.observer;
}

-- how many are left
abbrev pub decreases-loop-next : goal.decreases-loop-next
decreases-loop-next g l = length (turns_left l.playback)
