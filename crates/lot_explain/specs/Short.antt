-- Terms of the law of short explanations.
use Rattle.std.specs.Prelude.{ℕ, ◌≤◌, Option, Some, None, length, ⊤}
use Rattle.lot_machine.specs.declared.command.Command.{Command}
use Rattle.lot_machine.specs.declared.command.Command.TheVariants.{MakeThread, MakeFunded}
use Rattle.lot_simulation.specs.Timed.{timed_turns}
use Rattle.lot_simulation.specs.World.{Program}

-- a command that makes a thread gives it a name of at most 16 bytes
abbrev pub HasShortName : Command → Type 0
HasShortName (MakeThread name script) = length name ≤ 16
HasShortName (MakeFunded amount currency name script) = length name ≤ 16
HasShortName other = ⊤

-- the most bytes of a line that explains: it has the time and the reason only if the program has a duration
abbrev pub line_bytes : Option ℕ → ℕ
line_bytes None = 139
line_bytes (Some duration) = 183

-- the number of turns played: those of the schedule, or the timed turns if the program has a duration
abbrev pub turn_count : Program → Option ℕ → ℕ
turn_count program None = length program.schedule
turn_count program (Some duration) = length (timed_turns program)
