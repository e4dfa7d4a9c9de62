-- The output of `shares` and `chart`.
use Rattle.std.specs.Prelude.{◌≡◌, ℕ, Option, Ok, Err, Result, List}
use Rattle.std.specs.declared.alloc.AllocError.{AllocError}
use Rattle.lot_simulation.specs.declared.input.InputFault.{InputFault}
use Rattle.lot_simulation.specs.Grammar.{program_in}
use Rattle.lot_simulation.specs.Texts.{fault_line}
use Rattle.lot_simulation.specs.World.{Program}
use Rattle.lot_curves.specs.declared.by.By.TheVariants.{Thread}
use Rattle.lot_curves.specs.declared.stretch.Measure.{Measure}
use Rattle.lot_curves.specs.Curves.{curves_of}
use Rattle.lot_chart.specs.Dues.{dues_by}
use Rattle.lot_chart.specs.Tables.{table}
use Rattle.lot_chart.specs.Charts.{chart}
use Rattle.lot_io.specs.Watching.{Watch}
use Rattle.lot_system.specs.Played.{Plays}
use Rattle.lot_system.specs.declared.inputs.Played.{Played}
use Rattle.lot_system.specs.declared.inputs.Played.TheVariants.{Done}
use Rattle.lot_io.specs.declared.fault.IoFault.{IoFault}
use Rattle.lot_io.specs.declared.fault.IoFault.TheVariants.{Memory}

-- the text of the program, or the line for a refused input
abbrev pub shown_of : (Program → List ℕ) → Result Program InputFault → List ℕ
shown_of text (Ok program) = text program
shown_of text (Err fault) = fault_line fault

-- the output of `shares` for these bytes
abbrev pub shares_output : Measure → List ℕ → List ℕ
shares_output measure bytes = shown_of (λ program. table measure (curves_of program)) (program_in bytes)

-- the output of `chart` for these bytes
abbrev pub chart_output : List ℕ → List ℕ → List ℕ
chart_output title bytes = shown_of (λ program. chart title (dues_by Thread program) (curves_of program)) (program_in bytes)

-- the text was written, or a beginning of it if the writer failed; without a text nothing was
abbrev pub Shows : {T : Type 0} {V : Type 0} → (T → Option (List ℕ)) → Watch T → Watch T → Result V AllocError → (V → List ℕ) → Result Played IoFault → Type 0
Shows contents old new (Ok text) bytes result = Plays contents old new result Done (bytes text)
Shows contents old new (Err fault) bytes result = (result ≡ Err Memory) × (new ≡ old)
