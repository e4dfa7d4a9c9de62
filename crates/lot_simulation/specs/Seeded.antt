-- Programs with seeds computed from one number.
use Rattle.std.specs.Prelude.{ℕ, zero, suc, ◌*◌, ◌%◌, Option, Some, None, Result, Ok, Err, List, [], ◌∷◌}
use Rattle.lot_simulation.specs.declared.input.InputFault.{InputFault}
use Rattle.lot_simulation.specs.World.{Program}

-- The seeds of this many processors, computed from one number. The first is that number, and each further one the next
-- value of the generator with multiplier 48271, so that processors don't draw in lock step (4.1).
abbrev pub seeds_from : ℕ → ℕ → List ℕ
seeds_from zero seed = []
seeds_from (suc processors) seed = seed ∷ seeds_from processors (seed * 48271 % 2147483647)

-- the program with the seeds computed from this number, if one is given
abbrev pub with_seed : Option ℕ → Program → Program
with_seed None program = program
with_seed (Some seed) program = record program { seeds = seeds_from program.limits.processors seed }

-- the same for the result of reading an input, whose refusal stays
abbrev pub seeded : Option ℕ → Result Program InputFault → Result Program InputFault
seeded seed (Ok program) = Ok (with_seed seed program)
seeded seed (Err fault) = Err fault
