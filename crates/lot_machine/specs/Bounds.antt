-- The bounds of a kernel's sizes.
use Rattle.std.specs.Prelude.{ℕ, ◌≤◌, ◌==◌, ◌||◌, IsTrue}
use Rattle.lot_machine.specs.declared.sizes.Sizes.{Sizes}

-- n is in the range from the first to the last, both included
abbrev pub IsBetween : ℕ → ℕ → ℕ → Type 0
IsBetween first last n = (first ≤ n) × (n ≤ last)

-- the unit, 1 or 256: an active base ticket is worth its amount times the unit
abbrev pub IsUnit : ℕ → Type 0
IsUnit unit = IsTrue ((unit == 1) || (unit == 256))

-- each size is within its bounds
pub record IsWithinBounds (sizes : Sizes) : Type 0 where
  pub of_tickets : IsBetween 1 65535 sizes.tickets
  pub of_currencies : IsBetween 1 4096 sizes.currencies
  pub of_threads : IsBetween 1 4096 sizes.threads
  pub of_ports : IsBetween 0 256 sizes.ports
  pub of_mutexes : IsBetween 0 256 sizes.mutexes
  pub of_processors : IsBetween 1 64 sizes.processors
  pub of_scripts : IsBetween 0 256 sizes.scripts
  pub of_quantum : IsBetween 1 1000 sizes.quantum
  pub of_unit : IsUnit sizes.unit
