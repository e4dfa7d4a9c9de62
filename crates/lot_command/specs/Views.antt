-- The text of a view of an input, and whether a refusal ends its play.
use Rattle.std.specs.Prelude.{ℕ, Bool, false, Option, Some, None, Result, Ok, Err, List}
use Rattle.lot_simulation.specs.declared.input.InputFault.{InputFault}
use Rattle.lot_simulation.specs.Grammar.{program_in}
use Rattle.lot_simulation.specs.Output.{played_output}
use Rattle.lot_simulation.specs.Seeded.{seeded}
use Rattle.lot_simulation.specs.Texts.{fault_line}
use Rattle.lot_simulation.specs.World.{Program}
use Rattle.lot_system.specs.Leaving.{any_ends_refused, ends_refused}
use Rattle.lot_system.specs.ReportTable.{report_text}
use Rattle.lot_system.specs.Seeds.{seeds_between, seeds_report}
use Rattle.lot_curves.specs.Curves.{curves_by, curves_of, windowed}
use Rattle.lot_curves.specs.Intervals.{curves_within}
use Rattle.lot_explain.specs.Explained.{explained_program}
use Rattle.lot_chart.specs.Charts.{chart}
use Rattle.lot_chart.specs.Dues.{dues_by}
use Rattle.lot_chart.specs.Tables.{table}
use Rattle.lot_command.specs.declared.command_line.request.View.{View}
use Rattle.lot_command.specs.declared.command_line.request.View.TheVariants as views

-- The output for a program, with this title for a picture. A table or a picture may be of an interval of time, or of
-- the shares in a window, and a picture by thread or by currency.
abbrev pub view_of : View → List ℕ → Program → List ℕ
view_of views.Play title program = played_output program program.duration
view_of (views.Report None form) title program = report_text form program
view_of (views.Report (Some seeds) form) title program = seeds_report form seeds.first seeds.last program
view_of (views.Explain detail) title program = explained_program detail program program.duration
view_of (views.Shares measure interval window) title program =
    table measure (windowed window (curves_within interval (curves_of program)))
view_of (views.Chart by interval window) title program =
    chart title (dues_by by program) (windowed window (curves_within interval (curves_by by program)))

-- the same for an input, or the line for a refused one
abbrev pub shown_of : View → List ℕ → Result Program InputFault → List ℕ
shown_of view title (Ok program) = view_of view title program
shown_of view title (Err fault) = fault_line fault

-- the output for the input in these bytes, with this seed, if one is given
abbrev pub text_of : View → List ℕ → Option ℕ → List ℕ → List ℕ
text_of view title seed bytes = shown_of view title (seeded seed (program_in bytes))

-- whether a refusal ends the play of a program in this view, or one of its several plays
abbrev pub view_ends_refused : View → Program → Bool
view_ends_refused (views.Report (Some seeds) form) program = any_ends_refused program (seeds_between seeds.first seeds.last)
view_ends_refused other program = ends_refused program

-- the same for an input; a refused one has no play
abbrev pub ends_refused_in : View → Result Program InputFault → Bool
ends_refused_in view (Ok program) = view_ends_refused view program
ends_refused_in view (Err fault) = false

-- the same for the input in these bytes, with this seed, if one is given
abbrev pub input_ends_refused : View → Option ℕ → List ℕ → Bool
input_ends_refused view seed bytes = ends_refused_in view (seeded seed (program_in bytes))
