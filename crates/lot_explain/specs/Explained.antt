-- The output of `explain`: the output of `play`, with the lots of each won lottery before its line, and in more detail
-- the funding before these.
use Rattle.std.specs.Prelude.{ℕ, Option, Some, None, Result, Ok, Err, List, [], ◌∷◌, ◌++◌}
use Rattle.lot_machine.specs.State.{State}
use Rattle.lot_simulation.specs.declared.input.InputFault.{InputFault}
use Rattle.lot_simulation.specs.declared.style.LineStyle.{LineStyle}
use Rattle.lot_simulation.specs.declared.style.LineStyle.TheVariants.{Whole, Timed}
use Rattle.lot_simulation.specs.Grammar.{program_in}
use Rattle.lot_simulation.specs.Output.{printed_actor, turn_text}
use Rattle.lot_simulation.specs.Report.{report}
use Rattle.lot_simulation.specs.Texts.{fault_line}
use Rattle.lot_simulation.specs.Timed.{TimedTurn, timed_turns}
use Rattle.lot_simulation.specs.TimedReport.{timed_report}
use Rattle.lot_simulation.specs.World.{Program, World, TurnAnswer, TurnMade, opening_world, system_turn, system_run}
use Rattle.lot_simulation.specs.World.TurnAnswer.{Answered, Ended}
use Rattle.lot_explain.specs.declared.detail.Detail.{Detail}
use Rattle.lot_explain.specs.declared.detail.Detail.TheVariants as detail
use Rattle.lot_explain.specs.Funding.{funding_if_won}
use Rattle.lot_explain.specs.Lots.{loans_of, lots_of, won_in, won_lines}

-- the lines of the lots and the loans of a turn's lottery, given the state before the turn and its result; none if no
-- thread won
abbrev pub lots_text : LineStyle → ℕ → State → TurnAnswer → List ℕ
lots_text style actor s (Answered e r) = won_lines style s.limits.unit actor (lots_of s e) (loans_of s e) (won_in e r)
lots_text style actor s Ended = []

-- the funding at a turn's lottery, if this detail has it and a thread won
abbrev pub detail_text : Detail → LineStyle → ℕ → State → TurnAnswer → List ℕ
detail_text detail.Lots style actor s answer = []
detail_text detail.Funding style actor s (Answered e r) = funding_if_won (won_in e r) style s.limits.unit actor s
detail_text detail.Funding style actor s Ended = []

-- the funding and the lots of a turn's lottery, and then the turn's lines, given the world before it
abbrev pub explained_text : Detail → LineStyle → ℕ → World → TurnMade → List ℕ
explained_text detail style actor w turn =
    detail_text detail style (printed_actor turn.world.state actor) w.state turn.answer
    ++ (lots_text style (printed_actor turn.world.state actor) w.state turn.answer ++ turn_text style actor turn)

-- ---- the turns of a schedule

-- the explained lines of these actors' turns, from this world on
abbrev pub explained_texts : Detail → Program → World → List ℕ → List ℕ
explained_texts detail program w [] = []
explained_texts detail program w (actor ∷ actors) =
    explained_text detail Whole actor w (system_turn program w actor) ++ explained_texts detail program (system_turn program w actor).world actors

-- the explained output for a program with a schedule: the lines of its turns, and the report of its history
abbrev pub explained_schedule : Detail → Program → List ℕ
explained_schedule detail program = explained_texts detail program (opening_world program) program.schedule ++ report program (system_run program program.schedule).history

-- ---- timed turns

-- the explained lines of timed turns, the first of them made in this world, and each other in the world after the one
-- before
abbrev pub explained_times : Detail → World → List TimedTurn → List ℕ
explained_times detail w [] = []
explained_times detail w (done ∷ others) = explained_text detail (Timed done.time) done.actor w done.turn ++ explained_times detail done.turn.world others

-- the explained output for a timed program: the lines of its turns, and their report
abbrev pub explained_in_time : Detail → Program → List ℕ
explained_in_time detail program = explained_times detail (opening_world program) (timed_turns program) ++ timed_report program

-- ---- the whole

-- the output of `explain` for a program: timed if it has a duration, and by its schedule otherwise
abbrev pub explained_program : Detail → Program → Option ℕ → List ℕ
explained_program detail program None = explained_schedule detail program
explained_program detail program (Some duration) = explained_in_time detail program

-- the output of `explain` for a program, or the line for a refused input
abbrev pub explained_of : Detail → Result Program InputFault → List ℕ
explained_of detail (Ok program) = explained_program detail program program.duration
explained_of detail (Err fault) = fault_line fault

-- the output of `explain` for these bytes
abbrev pub explained_output : Detail → List ℕ → List ℕ
explained_output detail bytes = explained_of detail (program_in bytes)
