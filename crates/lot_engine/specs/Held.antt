-- The history's world in the fields of a system.
use Rattle.std.specs.Prelude.{◌≡◌, ℕ, ◌≤◌, ⊤, Option, IfSome, List, [], ◌∷◌, length, drop, is_some, unwrap_or}
use Rattle.lot_simulation.specs.declared.script.ScriptLine.{ScriptLine}
use Rattle.lot_machine.specs.declared.record.Thread.{Thread}
use Rattle.lot_machine.specs.Bounds.{IsBetween}
use Rattle.lot_machine.specs.Numbered.{at_number}
use Rattle.lot_simulation.specs.Script.{Context}
use Rattle.lot_machine.specs.State.{State}
use Rattle.lot_simulation.specs.World.{Program, World}
use Rattle.lot_script.specs.Places.{Place, Fits, context_at}

-- the lines of the program's script with this number, or none if there is no such script
abbrev pub script_lines : Program → ℕ → List ScriptLine
script_lines program script = unwrap_or (at_number program.scripts script) []

-- the thread's script is one of the program's, and the place in it stands for the thread's context
pub record IsAt (program : Program) (thread : Thread) (place : Place) (context : Context) : Type 0 where
  pub script : IsBetween 1 (length program.scripts) thread.script
  pub fits : Fits (script_lines program thread.script) place
  pub means : context_at (script_lines program thread.script) place ≡ context

-- Each thread's place in its script stands for its context. A removed thread may have any place.
abbrev pub AreAt : Program → List (Option Thread) → List Place → List Context → Type 0
AreAt program [] [] [] = ⊤
AreAt program (thread ∷ threads) (place ∷ places) (context ∷ contexts) = IfSome thread (λ there. IsAt program there place context) × AreAt program threads places contexts
AreAt program threads places contexts = ⊥

-- the state has the program's limits, and each thread has a record
pub record IsKept (program : Program) (s : State) : Type 0 where
  pub limits : s.limits ≡ program.limits
  pub records : length s.records ≡ length s.threads
  pub count : length s.threads ≤ s.limits.threads

-- The kernel's state, the threads' places, the generators' values, the named tickets and the number of commands made
-- are those of the world, which draws wide numbers if the program has a duration.
pub record IsHeld (program : Program) (w : World) (s : State) (places : List Place) (generators tickets : List ℕ) (spent : ℕ) : Type 0 where
  pub state : s ≡ w.state
  pub kept : IsKept program s
  pub places_at : AreAt program s.threads places w.contexts
  pub seeds : generators ≡ w.generators
  pub wide : w.is_wide ≡ is_some program.duration
  pub commands : drop spent program.commands ≡ w.commands
  pub names : drop spent program.names ≡ w.names
  pub tickets_are : tickets ≡ w.tickets
