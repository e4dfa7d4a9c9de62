-- The output of `play` for a program's turns.
use Rattle.std.specs.Prelude.{ℕ, Option, Some, None, List}
use Rattle.std.specs.List.{flat_map}
use Rattle.lot_simulation.specs.declared.style.LineStyle.{LineStyle}
use Rattle.lot_simulation.specs.declared.style.LineStyle.TheVariants.{Whole, Timed}
use Rattle.lot_simulation.specs.Output.{turn_text}
use Rattle.lot_simulation.specs.Report.{report}
use Rattle.lot_simulation.specs.TimedReport.{timed_report}
use Rattle.lot_simulation.specs.World.{Program, system_run}
use Rattle.lot_playback.specs.Turns.{MadeTurn}

-- the style of a turn made at this time, or without a time
abbrev pub style_at : Option ℕ → LineStyle
style_at None = Whole
style_at (Some time) = Timed time

-- the lines of a turn
abbrev pub made_text : MadeTurn → List ℕ
made_text made = turn_text (style_at made.time) made.actor made.turn

-- the lines of turns
abbrev pub made_texts : List MadeTurn → List ℕ
made_texts turns = flat_map made_text turns

-- the report after all turns, of a schedule or of a timed program
abbrev pub last_report : Program → Option ℕ → List ℕ
last_report program None = report program (system_run program program.schedule).history
last_report program (Some duration) = timed_report program
