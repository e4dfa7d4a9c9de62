-- The invariant of every program.
use Rattle.std.specs.Prelude.{◌≡◌, ℕ, ◌≤◌, length, All, IsSome}
use Rattle.std.specs.List.Sorted.{IsNonDecreasing}
use Rattle.lot_machine.specs.Bounds.{IsBetween, IsWithinBounds}
use Rattle.lot_simulation.specs.World.{Program}

-- the number is a valid seed of a generator
abbrev pub IsSeed : ℕ → Type 0
IsSeed seed = IsBetween 1 2147483646 seed

-- Sizes are within their bounds; each processor has a seed; the number of scripts is that of the sizes; the
-- schedule's actors are the console and the processors; turns, commands and schedule are within the limits of inputs.
-- If the program is timed, each command has a time. Times never decrease. Tickets have a limited number of names.
pub record IsProgram (program : Program) : Type 0 where
  pub limits : IsWithinBounds program.limits
  pub seed_count : length program.seeds ≡ program.limits.processors
  pub seeds : All IsSeed program.seeds
  pub turns : program.turns ≤ 10000
  pub script_count : length program.scripts ≡ program.limits.scripts
  pub command_count : length program.commands ≤ 100000
  pub actors : All (λ actor. actor ≤ program.limits.processors) program.schedule
  pub schedule_length : length program.schedule ≤ 1000000
  pub time_count : IsSome program.duration → length program.times ≡ length program.commands
  pub rising : IsNonDecreasing program.times
  pub ticket_names : program.ticket_names ≤ 4096
