-- The parts of a program.
use Rattle.std.specs.Prelude.{◌≡◌, ℕ, List, length, All, is_some}
use Rattle.std.specs.Arc.{arc_slice_items}
use Rattle.lot_machine.specs.State.{sizes_of}
use Rattle.lot_simulation.specs.Formats.{is_timed, unit_of}
use Rattle.lot_simulation.specs.World.{Program}
use Rattle.lot_program.specs.Programs.{IsProgram, IsSeed}
use Rattle.lot_program.specs.declared.program.Parts.{Parts}

-- valid seeds, one for each processor
pub record AreSeeds (processors : ℕ) (seeds : List ℕ) : Type 0 where
  pub count : length seeds ≡ processors
  pub each : All IsSeed seeds

-- the program of these parts
abbrev pub program_in : Parts → Program
program_in parts = record {
  limits = sizes_of parts.limits;
  seeds = parts.seeds.items;
  turns = parts.turns;
  scripts = parts.scripts.items;
  commands = parts.commands;
  schedule = arc_slice_items parts.schedule;
  duration = parts.duration;
  times = arc_slice_items parts.times;
  ticket_names = parts.ticket_names;
  names = arc_slice_items parts.names;
  options = parts.options;
}

-- the parts make a program: its format has its unit, and a duration if and only if it is timed
pub record AreParts (parts : Parts) : Type 0 where
  pub program : IsProgram (program_in parts)
  pub unit : unit_of parts.format ≡ parts.limits.unit
  pub timed : is_timed parts.format ≡ is_some parts.duration
