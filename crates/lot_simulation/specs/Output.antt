-- The whole output of the program.
use Rattle.std.specs.Prelude.{ℕ, ◌+◌, min, Option, Some, None, Result, Ok, Err, List, [], ◌∷◌, ◌++◌, codes}
use Rattle.std.specs.Fmt.{decimal}
use Rattle.lot_simulation.specs.declared.input.InputFault.{InputFault}
use Rattle.lot_machine.specs.State.{State}
use Rattle.lot_simulation.specs.Grammar.{program_in}
use Rattle.lot_simulation.specs.Texts.{newline, front, refused, reply_text, fault_line}
use Rattle.lot_simulation.specs.Report.{report, history_lines}
use Rattle.std.specs.List.{flat_map}
use Rattle.lot_simulation.specs.declared.style.LineStyle.{LineStyle}
use Rattle.lot_simulation.specs.declared.style.LineStyle.TheVariants.{Whole, Timed}
use Rattle.lot_simulation.specs.Timed.{TimedTurn, timed_turns}
use Rattle.lot_simulation.specs.TimedReport.{report_after}
use Rattle.lot_simulation.specs.World.{Program, World, TurnAnswer, TurnMade, opening_world, system_turn, system_run, without_time}
use Rattle.lot_simulation.specs.World.TurnAnswer.{Answered, Ended}

-- the text of an answer, given the state after its turn
abbrev pub answer_text : LineStyle → State → TurnAnswer → List ℕ
answer_text style s (Answered e r) = reply_text style s e r
answer_text style s Ended = refused 41 (codes "Ended") ++ newline

-- the actor in print: the timer is the actor after the processors, whichever thread it wakes
abbrev pub printed_actor : State → ℕ → ℕ
printed_actor s actor = min actor (s.limits.processors + 1)

-- the lines of a turn; the first begins with the actor
abbrev pub turn_text : LineStyle → ℕ → TurnMade → List ℕ
turn_text style actor turn =
    front style ++ (decimal (printed_actor turn.world.state actor) ++ (codes " " ++ answer_text style turn.world.state turn.answer))

-- the lines of these actors' turns, from this world on
abbrev pub turn_texts : Program → World → List ℕ → List ℕ
turn_texts program w [] = []
turn_texts program w (actor ∷ actors) = turn_text Whole actor (system_turn program w actor) ++ turn_texts program (system_turn program w actor).world actors

-- the output for a program with a schedule: the lines of its turns, and the report of its history
abbrev pub scheduled_output : Program → List ℕ
scheduled_output program = turn_texts program (opening_world program) program.schedule ++ report program (system_run program program.schedule).history

-- the lines of a timed turn
abbrev pub timed_text : TimedTurn → List ℕ
timed_text done = turn_text (Timed done.time) done.actor done.turn

-- the output for a timed program that makes these turns: their lines, and their report
abbrev pub output_after : Program → List TimedTurn → List ℕ
output_after program turns = flat_map timed_text turns ++ report_after program turns

-- the output for a timed program: that of all its turns
abbrev pub timed_output : Program → List ℕ
timed_output program = output_after program (timed_turns program)

-- the output of `play` for a program: timed if it has a duration, and by its schedule otherwise
abbrev pub played_output : Program → Option ℕ → List ℕ
played_output program None = scheduled_output program
played_output program (Some duration) = timed_output program

-- the output of `play` for a program, or the line for a refused input
abbrev pub output_of : Result Program InputFault → List ℕ
output_of (Ok program) = played_output program program.duration
output_of (Err fault) = fault_line fault

-- the output of `play` for these bytes
abbrev pub output : List ℕ → List ℕ
output bytes = output_of (program_in bytes)

-- the end of the output of `run`: the report of this history, and the history itself
abbrev pub end_text : Program → List ℕ → List ℕ
end_text program history = report program history ++ history_lines program.limits.unit history

-- The output of `run` for a program with this history, or the line for a refused input. A run has no time.
abbrev pub run_output_of : Result Program InputFault → List ℕ → List ℕ
run_output_of (Ok program) history = end_text (without_time program) history
run_output_of (Err fault) history = fault_line fault

-- the output of `run` for these bytes, if the turns came in this order
abbrev pub run_output : List ℕ → List ℕ → List ℕ
run_output bytes history = run_output_of (program_in bytes) history
