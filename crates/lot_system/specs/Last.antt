-- The end of a play.
use Rattle.std.specs.Prelude.{ℕ}
use Rattle.lot_simulation.specs.Report.{ticks_in, total_of}
use Rattle.lot_simulation.specs.World.{Program, World, opening_world}
use Rattle.lot_playback.specs.Turns.{counted_turns, program_turns, world_after_turns}

-- the world after all turns of the program
abbrev pub last_world : Program → World
last_world program = world_after_turns (opening_world program) (program_turns program)

-- the ticks of all turns of the program
abbrev pub all_ticks : Program → ℕ
all_ticks program = total_of ticks_in (counted_turns (program_turns program))
