-- The fields of a slice.
use Rattle.std.specs.Prelude.{◌≡◌, ℕ, Option, List}
use Rattle.lot_simulation.specs.declared.script.ScriptLine.{ScriptLine}
use Rattle.lot_machine.specs.Actions.{ScriptTrap}
use Rattle.lot_machine.specs.Bounds.{IsBetween}
use Rattle.lot_simulation.specs.Script.{slice}
use Rattle.lot_script.specs.Places.{Place, Fits, context_at}

-- a script's lines, the start and the budget of a slice, its ticks of work and the trap after them, if any, and its
-- end
pub record Parts : Type 0 where
  pub lines : List ScriptLine
  pub start : Place
  pub budget : ℕ
  pub ticks : ℕ
  pub trap : Option ScriptTrap
  pub end : Place

-- the ticks, the trap and the end are those of the slice from the start with the budget
pub record IsSlice (parts : Parts) : Type 0 where
  pub start_fits : Fits parts.lines parts.start
  pub budget_fits : IsBetween 1 1000 parts.budget
  pub sliced : slice (context_at parts.lines parts.start) parts.budget ≡ record { ticks = parts.ticks; trap = parts.trap; end = context_at parts.lines parts.end }
  pub end_fits : Fits parts.lines parts.end

-- both slices are of scripts with the same lines, from the same place, with the same budget
pub record IsSameSlice (one other : Parts) : Type 0 where
  pub lines : one.lines ≡ other.lines
  pub start : one.start ≡ other.start
  pub budget : one.budget ≡ other.budget
