-- The slice of a work.
use Rattle.std.specs.Prelude.{◌≡◌, Option, Some, None, length}
use Rattle.lot_machine.specs.Bounds.{IsBetween}
use Rattle.lot_simulation.specs.World.{Program}
use Rattle.lot_script.specs.Places.{Fits}
use Rattle.lot_engine.specs.declared.fault.TurnFault.{TurnFault}
use Rattle.lot_engine.specs.declared.fault.TurnFault.TheVariants.{Stale}
use Rattle.lot_engine.specs.declared.turn.Work.{Work}
use Rattle.lot_engine.specs.Held.{script_lines}

-- the program has the work's script, its place fits that script, and its budget is in the range of quanta
pub record FitsIn (program : Program) (work : Work) : Type 0 where
  pub script : IsBetween 1 (length program.scripts) work.script
  pub place : Fits (script_lines program work.script) work.place
  pub budget : IsBetween 1 1000 work.budget

-- the work doesn't fit the program, and the fault carries it
abbrev pub IsStale : Program → Option Work → TurnFault → Type 0
IsStale program None fault = ⊥
IsStale program (Some work) fault = (fault ≡ Stale (Some work)) × ¬ FitsIn program work
