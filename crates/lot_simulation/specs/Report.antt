-- The report, and the lines that reproduce a history.
use Rattle.std.specs.Prelude.{ℕ, zero, suc, ◌+◌, ◌-◌, ◌==◌, List, [], ◌∷◌, ◌++◌, length, filter, sum_by, codes, if◌then◌else◌}
use Rattle.std.specs.List.{flat_map, range_with_len}
use Rattle.std.specs.Fmt.{decimal}
use Rattle.lot_machine.specs.declared.row.ThreadRow.{ThreadRow}
use Rattle.lot_machine.specs.declared.reply.Reply.{Reply}
use Rattle.lot_machine.specs.declared.reply.Reply.TheVariants as reply
use Rattle.lot_machine.specs.Numbered.{numbers}
use Rattle.lot_machine.specs.Rows.{thread_row}
use Rattle.lot_simulation.specs.Columns.{number, report_line}
use Rattle.lot_simulation.specs.declared.columns.Subject.TheVariants.{Processor, Thread, Total}
use Rattle.lot_simulation.specs.Grammar.{ActorRun}
use Rattle.lot_simulation.specs.Texts.{newline, lines_for}
use Rattle.lot_simulation.specs.World.{Program, World, TurnAnswer, opening_world, system_answers, system_run}
use Rattle.lot_simulation.specs.World.TurnAnswer.{Answered, Ended}

-- ---- counts

-- an actor, and the answer to its turn
pub record ActorTurn : Type 0 where
  pub actor : ℕ
  pub answer : TurnAnswer

-- each actor paired with its answer
abbrev pub beside : List ℕ → List TurnAnswer → List ActorTurn
beside [] answers = []
beside (actor ∷ actors) [] = []
beside (actor ∷ actors) (answer ∷ answers) = record { actor = actor; answer = answer } ∷ beside actors answers

-- these actors' turns, from the program's opening world
abbrev pub turns_made : Program → List ℕ → List ActorTurn
turns_made program actors = beside actors (system_answers program (opening_world program) actors)

-- 1 if a draw was won
abbrev pub quanta_in : Reply → ℕ
quanta_in (reply.Winner thread number total delivered) = 1
quanta_in other = 0

-- 1 if a draw was idle
abbrev pub idles_in : Reply → ℕ
idles_in reply.Idle = 1
idles_in other = 0

-- the ticks reported by an expiry or a trap
abbrev pub ticks_in : Reply → ℕ
ticks_in (reply.Expired thread ticks) = ticks
ticks_in (reply.Trapped thread ticks came ends) = ticks
ticks_in other = 0

-- the count of an answer's reply, or 0 if it has none
abbrev pub count_in : (Reply → ℕ) → TurnAnswer → ℕ
count_in count (Answered e r) = count r
count_in count Ended = 0

-- the sum of a count over these turns
abbrev pub total_of : (Reply → ℕ) → List ActorTurn → ℕ
total_of count turns = sum_by (λ turn. count_in count turn.answer) turns

-- the turns of one actor
abbrev pub turns_of : ℕ → List ActorTurn → List ActorTurn
turns_of actor turns = filter (λ turn. turn.actor == actor) turns

-- ---- the report

-- a thread's line: its name, the draws it has won and the ticks it has used
abbrev pub thread_total : ℕ → ThreadRow → List ℕ
thread_total n row = report_line Thread n row.name (number row.quanta ∷ number row.ticks ∷ [])

-- a processor's line: its won draws, its idle draws, and the ticks used there
abbrev pub processor_total : List ActorTurn → ℕ → List ℕ
processor_total turns p =
    report_line Processor p []
    (number (total_of quanta_in (turns_of p turns)) ∷ number (total_of idles_in (turns_of p turns)) ∷ number (total_of ticks_in (turns_of p turns)) ∷ [])

-- the last line: the number of turns, and the counts over all of them
abbrev pub whole_total : ℕ → List ActorTurn → List ℕ
whole_total made turns = report_line Total 1 [] (number made ∷ number (total_of quanta_in turns) ∷ number (total_of ticks_in turns) ∷ [])

-- the report of the world after these turns
abbrev pub report_of : World → List ActorTurn → List ℕ
report_of w turns =
    codes "report" ++ (newline ++ (lines_for thread_total (thread_row w.state) (numbers w.state.records)
    ++ (flat_map (processor_total turns) (range_with_len 1 w.state.limits.processors) ++ whole_total (length w.history) turns)))

-- the report of the program's run with this history
abbrev pub report : Program → List ℕ → List ℕ
report program history = report_of (system_run program history) (turns_made program history)

-- ---- lines that reproduce a history

-- these lists with x in front of the first, or the list of x alone if there is none
abbrev pub with_first : {A : Type 0} → A → List (List A) → List (List A)
with_first x [] = (x ∷ []) ∷ []
with_first x (xs ∷ others) = (x ∷ xs) ∷ others

-- The list in groups. The first has at most this room, and each later one at most this size.
abbrev pub groups_after : {A : Type 0} → ℕ → ℕ → List A → List (List A)
groups_after size room [] = []
groups_after size zero (x ∷ xs) = [] ∷ with_first x (groups_after size (size - 1) xs)
groups_after size (suc room) (x ∷ xs) = with_first x (groups_after size room xs)

-- the list in groups of this size; the last may be shorter
abbrev pub groups_of : {A : Type 0} → ℕ → List A → List (List A)
groups_of size xs = groups_after size size xs

-- an actor in a line
abbrev pub actor_text : ℕ → List ℕ
actor_text actor = codes " " ++ decimal actor

-- a line of at most 64 actors
abbrev pub schedule_line : List ℕ → List ℕ
schedule_line actors = codes "schedule" ++ (flat_map actor_text actors ++ newline)

-- the history in lines of 64 actors; the last line has the rest
abbrev pub schedule_lines : List ℕ → List ℕ
schedule_lines history = flat_map schedule_line (groups_of 64 history)

-- the runs with one turn of the actor before them
abbrev pub run_before : ℕ → List ActorRun → List ActorRun
run_before actor [] = record { actor = actor; count = 1 } ∷ []
run_before actor (run ∷ runs) =
    if run.actor == actor then record run { count = run.count + 1 } ∷ runs else record { actor = actor; count = 1 } ∷ run ∷ runs

-- the history in runs; neighbouring runs have different actors
abbrev pub runs_in : List ℕ → List ActorRun
runs_in [] = []
runs_in (actor ∷ actors) = run_before actor (runs_in actors)

-- a run in a line
abbrev pub run_text : ActorRun → List ℕ
run_text run = codes " " ++ (decimal run.actor ++ (codes " " ++ decimal run.count))

-- a line of at most 32 runs
abbrev pub runs_line : List ActorRun → List ℕ
runs_line runs = codes "runs" ++ (flat_map run_text runs ++ newline)

-- the history in lines of 32 runs; the last line has the rest
abbrev pub runs_lines : List ℕ → List ℕ
runs_lines history = flat_map runs_line (groups_of 32 (runs_in history))

-- the history as lines of an input with this unit
abbrev pub history_lines : ℕ → List ℕ → List ℕ
history_lines unit history = if unit == 1 then schedule_lines history else runs_lines history
