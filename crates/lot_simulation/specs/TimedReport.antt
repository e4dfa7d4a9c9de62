-- The report of a timed input.
use Rattle.std.specs.Prelude.{ℕ, ◌+◌, ◌-◌, ◌*◌, ◌/◌, ◌^◌, max, ◌==◌, Bool, false, is_some, Option, Some, None, List, [], ◌∷◌, ◌++◌, length, drop, map, fold, codes, if◌then◌else◌}
use Rattle.std.specs.List.{flat_map, range_with_len}
use Rattle.std.specs.Option.{option_map, option_map_or}
use Rattle.std.specs.Fmt.{decimal}
use Rattle.lot_machine.specs.declared.trap.Trap.TheVariants as action
use Rattle.lot_machine.specs.declared.event.Event.TheVariants as event
use Rattle.lot_machine.specs.declared.reply.Reply.{Reply}
use Rattle.lot_machine.specs.declared.reply.Reply.TheVariants as reply
use Rattle.lot_machine.specs.declared.reply.Outcome.TheVariants as outcome
use Rattle.lot_machine.specs.declared.row.ThreadRow.{ThreadRow}
use Rattle.lot_machine.specs.Facts.{base_value, live_value}
use Rattle.lot_machine.specs.Lends.{is_live}
use Rattle.lot_machine.specs.Numbered.{numbers}
use Rattle.lot_machine.specs.Rows.{currency_name, thread_row}
use Rattle.lot_machine.specs.declared.record.Status.{Status}
use Rattle.lot_machine.specs.declared.record.Status.TheVariants.{Ready, Running}
use Rattle.lot_machine.specs.State.{State, live_of, opening, status_of, value_of}
use Rattle.lot_simulation.specs.Columns.{all_subjects, number, quiet, share, span_cells, told_text}
use Rattle.lot_simulation.specs.declared.columns.Layout.{Layout}
use Rattle.lot_simulation.specs.declared.columns.Layout.TheVariants.{InLine}
use Rattle.lot_simulation.specs.declared.columns.Subject.{Subject}
use Rattle.lot_simulation.specs.declared.columns.Cell.{Cell}
use Rattle.lot_simulation.specs.declared.columns.Cell.TheVariants.{Empty}
use Rattle.lot_simulation.specs.declared.columns.Subject.TheVariants.{Currency, Processor, Thread, Total}
use Rattle.lot_simulation.specs.Texts.{newline}
use Rattle.lot_simulation.specs.Report.{ActorTurn, quanta_in, idles_in, ticks_in, total_of, turns_of}
use Rattle.lot_simulation.specs.declared.timed.Clock.{Clock}
use Rattle.lot_simulation.specs.declared.timed.EarlyEnd.{EarlyEnd}
use Rattle.lot_simulation.specs.declared.timed.PastLives.{PastLives}
use Rattle.lot_simulation.specs.declared.timed.Span.{Span}
use Rattle.lot_simulation.specs.declared.timed.SpanChange.{SpanChange}
use Rattle.lot_simulation.specs.declared.timed.SpanChange.TheVariants.{Nobody, Anew, Begins, Ends}
use Rattle.lot_simulation.specs.declared.timed.Spans.{Spans}
use Rattle.lot_simulation.specs.Timed.{Moment, TimedTurn, clock_of, end_of, ended_at, following, moment_after_all, opening_moment, timed_turns}
use Rattle.lot_simulation.specs.Below.{stands_below, worth_of}
use Rattle.lot_simulation.specs.World.{Program, TurnAnswer, TurnMade}
use Rattle.lot_simulation.specs.World.TurnAnswer.{Answered}

-- ---- spans of time

-- no past span and no current one
abbrev pub no_spans : Spans
no_spans = record { count = 0; total = 0; longest = 0; last = None; since = None }

-- the spans after one begins at this time
abbrev pub span_begun : ℕ → Spans → Spans
span_begun time spans = record spans { since = Some time }

-- the spans after the current one, if any, ends at this time
abbrev pub span_ended : ℕ → Spans → Spans
span_ended time spans = made spans.since
  where
    made : Option ℕ → Spans
    made None = spans
    made (Some since) = record {
      count = spans.count + 1;
      total = spans.total + (time - since);
      longest = max spans.longest (time - since);
      last = Some (record { from = since; to = time });
      since = None;
    }

-- A thread waits for a mutex from the lock that finds it taken until the unlock that passes it on (6.1). A wait that a
-- kill ends doesn't count. A new thread has never waited, whoever had its number before.
abbrev pub mutex_wait : TurnAnswer → SpanChange
mutex_wait (Answered e (reply.Thread thread)) = Anew thread
mutex_wait (Answered e (reply.Funded ticket thread)) = Anew thread
mutex_wait (Answered (event.Trap p ran (action.Lock mutex)) (reply.Trapped thread ticks outcome.Waits ends)) = Begins thread
mutex_wait (Answered e (reply.Trapped thread ticks (outcome.Passed to drawn) ends)) = Ends to
mutex_wait other = Nobody

-- A thread waits for a reply from its call until the reply (4.6). A wait that a kill ends doesn't count.
abbrev pub reply_wait : TurnAnswer → SpanChange
reply_wait (Answered e (reply.Thread thread)) = Anew thread
reply_wait (Answered e (reply.Funded ticket thread)) = Anew thread
reply_wait (Answered e (reply.Trapped thread ticks (outcome.ServedBy server) ends)) = Begins thread
reply_wait (Answered e (reply.Trapped thread ticks outcome.Queued ends)) = Begins thread
reply_wait (Answered e (reply.Trapped thread ticks (outcome.Replied client) ends)) = Ends client
reply_wait (Answered e (reply.Trapped thread ticks (outcome.RepliedThenReceived to client number) ends)) = Ends to
reply_wait (Answered e (reply.Trapped thread ticks (outcome.RepliedThenWaits to) ends)) = Ends to
reply_wait other = Nobody

-- a thread lives from the turn that makes it until it exits or is killed
abbrev pub life : TurnAnswer → SpanChange
life (Answered e (reply.Thread thread)) = Begins thread
life (Answered e (reply.Funded ticket thread)) = Begins thread
life (Answered e (reply.Trapped thread ticks outcome.Exited ends)) = Ends thread
life (Answered e (reply.Killed thread)) = Ends thread
life other = Nobody

-- the change that a turn makes to waits for mutexes
abbrev pub mutex_change : TurnMade → SpanChange
mutex_change turn = mutex_wait turn.answer

-- the change that a turn makes to waits for replies
abbrev pub reply_change : TurnMade → SpanChange
reply_change turn = reply_wait turn.answer

-- the change that a turn makes to lives
abbrev pub life_change : TurnMade → SpanChange
life_change turn = life turn.answer

-- the thread's spans after this change at this time
abbrev pub spans_after : ℕ → ℕ → Spans → SpanChange → Spans
spans_after t time spans Nobody = spans
spans_after t time spans (Anew u) = if u == t then no_spans else spans
spans_after t time spans (Begins u) = if u == t then span_begun time spans else spans
spans_after t time spans (Ends u) = if u == t then span_ended time spans else spans

-- the thread's spans after these turns
abbrev pub spans_in : (TurnMade → SpanChange) → List TimedTurn → ℕ → Spans
spans_in change turns t = fold (λ spans done. spans_after t done.time spans (change done.turn)) no_spans turns

-- ---- waits to run

-- whether a thread with this number was made
abbrev pub makes : ℕ → TurnAnswer → Bool
makes t (Answered e (reply.Thread thread)) = thread == t
makes t (Answered e (reply.Funded ticket thread)) = thread == t
makes t other = false

-- The thread's waits to run, with this status after a turn at this time. A wait begins when the thread becomes Ready,
-- and ends when it runs. A wait that a kill ends doesn't count (4.2).
abbrev pub queued : ℕ → Spans → Option Status → Spans
queued time spans (Some Ready) = if is_some spans.since then spans else span_begun time spans
queued time spans (Some (Running processor used)) = span_ended time spans
queued time spans other = record spans { since = None }

-- the thread's waits to run after this turn; a new thread has never waited, whoever had its number before
abbrev pub ready_after : ℕ → Spans → TimedTurn → Spans
ready_after t spans done =
    queued done.time (if makes t done.turn.answer then no_spans else spans) (status_of done.turn.world.state.records t)

-- the thread's waits to run in these turns
abbrev pub ready_in : List TimedTurn → ℕ → Spans
ready_in turns t = fold (ready_after t) no_spans turns

-- ---- refused traps

-- The number of a thread's refused traps after this answer, from their number before it. A new thread has none, whoever
-- had its number before.
abbrev pub refusals_after : ℕ → ℕ → TurnAnswer → ℕ
refusals_after t n (Answered e (reply.Thread thread)) = if thread == t then 0 else n
refusals_after t n (Answered e (reply.Funded ticket thread)) = if thread == t then 0 else n
refusals_after t n (Answered e (reply.Trapped thread ticks (outcome.Refused why) ends)) = if thread == t then n + 1 else n
refusals_after t n other = n

-- the number of the thread's refused traps after these turns
abbrev pub refused_traps_in : List TimedTurn → ℕ → ℕ
refused_traps_in turns t = fold (λ n done. refusals_after t n done.turn.answer) 0 turns

-- ---- the report

-- each timed turn's actor with its answer
abbrev pub actor_turns : List TimedTurn → List ActorTurn
actor_turns turns = map (λ done. record { actor = done.actor; answer = done.turn.answer }) turns

-- the thread's part of the live value: its own value if it is live, and 0 otherwise
abbrev pub live_part : State → ℕ → ℕ → ℕ
live_part s t value = if is_live (live_of s) t then value else 0

-- the parts into which a tick is divided
abbrev pub tick_parts : ℕ
tick_parts = 10 ^ 18

-- The parts due per base unit of a total value, after this many ticks. They round up, so that an exact share doesn't
-- read as less.
abbrev pub rate_in : ℕ → ℕ → ℕ
rate_in whole ticks = if whole == 0 then 0 else (ticks * tick_parts + (whole - 1)) / whole

-- the parts due per base unit of live value, while the state lasts this many ticks
abbrev pub due_rate : State → ℕ → ℕ
due_rate s ticks = rate_in (live_value s) ticks

-- the parts due to the thread, by its value, while the state lasts this many ticks (2, 4.4)
abbrev pub due_part : State → ℕ → ℕ → ℕ
due_part s t ticks = live_part s t (value_of s t) * due_rate s ticks

-- The parts due after a turn, from those before it, when the state before it lasted this many ticks. A thread or
-- currency that the turn makes is due nothing yet, whatever had its number before.
abbrev pub due_after : (State → ℕ → ℕ) → (TurnAnswer → Bool) → State → ℕ → ℕ → TurnAnswer → ℕ
due_after part is_new s ticks due answer = if is_new answer then 0 else due + part s ticks

-- The parts due after these turns, from those before them, when this has been the state since this time. Each state
-- adds a part for the ticks that it lasts.
abbrev pub due_from : (State → ℕ → ℕ) → (TurnAnswer → Bool) → State → ℕ → ℕ → List TimedTurn → ℕ
due_from part is_new s time due [] = due
due_from part is_new s time due (done ∷ others) =
    due_from part is_new done.turn.world.state done.time (due_after part is_new s (done.time - time) due done.turn.answer) others

-- the parts due to the thread after these turns, the first of which was made in this state: the live threads share the
-- ticks of each state by their values
abbrev pub due_in : State → List TimedTurn → ℕ → ℕ
due_in s turns t = due_from (λ state ticks. due_part state t ticks) (makes t) s 0 0 turns

-- these ticks, if the live value is above 0 in this state, and otherwise none
abbrev pub live_ticks : State → ℕ → ℕ
live_ticks s ticks = if live_value s == 0 then 0 else ticks

-- The ticks counted over these turns, when this has been the state since this time. The function says how many of a
-- state's ticks count.
abbrev pub time_from : (State → ℕ → ℕ) → State → ℕ → ℕ → List TimedTurn → ℕ
time_from counted s time all [] = all
time_from counted s time all (done ∷ others) =
    time_from counted done.turn.world.state done.time (all + counted s (done.time - time)) others

-- the ticks in which the live value was above 0 in these turns, the first of which was made in this state
abbrev pub live_time : State → List TimedTurn → ℕ
live_time s turns = time_from live_ticks s 0 0 turns

-- the time at which the last thread with these lives was made; a line leaves it out if it is 0 and the thread hasn't ended
abbrev pub made_cell : Spans → Cell
made_cell lives = at lives.since lives.last
  where
    at : Option ℕ → Option Span → Cell
    at (Some since) last = quiet since
    at None (Some life) = number life.from
    at None None = Empty

-- the time at which it ended, if it has
abbrev pub ended_cell : Spans → Cell
ended_cell lives = at lives.since lives.last
  where
    at : Option ℕ → Option Span → Cell
    at (Some since) last = Empty
    at None (Some life) = number life.to
    at None None = Empty

-- a thread's waits of one kind: their number, their mean, and the longest
abbrev pub wait_cells : Spans → List Cell
wait_cells waits = span_cells waits.count waits.total waits.longest

-- The cells of a thread: the draws won, the ticks used and their share of all ticks, its due share of the time in which
-- live threads had value, its share of the live value, its waits to run, for mutexes and for replies, its refused traps,
-- and when it was made and ended.
unfoldable pub thread_cells : State → List TimedTurn → ℕ → ThreadRow → List Cell
thread_cells s turns t row =
    number row.quanta ∷ number row.ticks ∷ share row.ticks (total_of ticks_in (actor_turns turns))
    ∷ share (due_in (opening s.limits) turns t) (live_time (opening s.limits) turns * tick_parts)
    ∷ share (live_part s t row.value) (live_value s)
    ∷ (wait_cells (ready_in turns t) ++ (wait_cells (spans_in mutex_change turns t) ++ (wait_cells (spans_in reply_change turns t)
    ++ (quiet (refused_traps_in turns t) ∷ made_cell (spans_in life_change turns t) ∷ ended_cell (spans_in life_change turns t) ∷ []))))

-- ---- currencies

-- whether a currency with this number was made
abbrev pub makes_currency : ℕ → TurnAnswer → Bool
makes_currency c (Answered e (reply.Currency currency)) = currency == c
makes_currency c other = false

-- these ticks, if the thread stands below the currency in this state, and otherwise none
abbrev pub ticks_if_below : State → ℕ → ℕ → ℕ → ℕ
ticks_if_below s c t ticks = if stands_below s c t then ticks else 0

-- the ticks of a turn made in this state, if its thread stood below the currency
abbrev pub ticks_below : State → ℕ → TurnAnswer → ℕ
ticks_below s c (Answered e (reply.Expired thread ticks)) = ticks_if_below s c thread ticks
ticks_below s c (Answered e (reply.Trapped thread ticks came ends)) = ticks_if_below s c thread ticks
ticks_below s c other = 0

-- The ticks of the threads below the currency after a turn made in this state, from those before it. A new currency has
-- none, whichever had its number before.
abbrev pub currency_ticks_after : State → ℕ → ℕ → TurnAnswer → ℕ
currency_ticks_after s c ticks answer = if makes_currency c answer then 0 else ticks + ticks_below s c answer

-- the ticks of the threads below the currency after these turns, from those before them, starting in this state
abbrev pub currency_ticks_from : State → ℕ → ℕ → List TimedTurn → ℕ
currency_ticks_from s c ticks [] = ticks
currency_ticks_from s c ticks (done ∷ others) =
    currency_ticks_from done.turn.world.state c (currency_ticks_after s c ticks done.turn.answer) others

-- the ticks of the threads below the currency in these turns, the first of which was made in this state
abbrev pub currency_ticks_in : State → List TimedTurn → ℕ → ℕ
currency_ticks_in s turns c = currency_ticks_from s c 0 turns

-- The parts due to the currency, by its value, while the state lasts this many ticks. Its share is its value over the
-- total value of base's active tickets (2, 4.4).
abbrev pub currency_part : State → ℕ → ℕ → ℕ
currency_part s c ticks = worth_of s c * rate_in (base_value s) ticks

-- these ticks, if tickets of base are active in this state, and otherwise none
abbrev pub base_ticks : State → ℕ → ℕ
base_ticks s ticks = if base_value s == 0 then 0 else ticks

-- the parts due to the currency after these turns, the first of which was made in this state
abbrev pub currency_due_in : State → List TimedTurn → ℕ → ℕ
currency_due_in s turns c = due_from (λ state ticks. currency_part state c ticks) (makes_currency c) s 0 0 turns

-- the ticks in which tickets of base were active in these turns, the first of which was made in this state
abbrev pub base_time : State → List TimedTurn → ℕ
base_time s turns = time_from base_ticks s 0 0 turns

-- The cells of a currency: the ticks of the threads below it and their share of all ticks, and its due share of the time
-- in which base tickets were active. A thread may stand below several currencies, so the shares may add up to more than
-- all.
unfoldable pub currency_cells : State → List TimedTurn → ℕ → List Cell
currency_cells s turns c =
    number (currency_ticks_in (opening s.limits) turns c)
    ∷ share (currency_ticks_in (opening s.limits) turns c) (total_of ticks_in (actor_turns turns))
    ∷ share (currency_due_in (opening s.limits) turns c) (base_time (opening s.limits) turns * tick_parts) ∷ []

-- ---- the whole report

-- the ticks that a processor was idle, up to this time
abbrev pub idle_until : ℕ → Clock → ℕ
idle_until end clock = if clock.waits then clock.idle + (end - clock.time) else clock.idle

-- A processor's clock at this time: the time of its last turn, or this time if the processor waits.
abbrev pub clock_at : ℕ → Clock → ℕ
clock_at end clock = if clock.waits then end else clock.time

-- the cells of a processor: its won draws, its idle draws, the ticks used there, and the ticks that it was idle
unfoldable pub processor_cells : Moment → ℕ → List ActorTurn → ℕ → List Cell
processor_cells m end turns p =
    number (total_of quanta_in (turns_of p turns)) ∷ number (total_of idles_in (turns_of p turns))
    ∷ number (total_of ticks_in (turns_of p turns)) ∷ number (idle_until end (clock_of m.clocks p)) ∷ []

-- 1 if a command or a wake was refused
abbrev pub refusals_in : Reply → ℕ
refusals_in (reply.Refused why) = 1
refusals_in other = 0

-- no past life
abbrev pub no_lives : PastLives
no_lives = record { count = 0; total = 0; longest = 0 }

-- past lives together with those of one number
abbrev pub with_lives : PastLives → Spans → PastLives
with_lives lives spans = record { count = lives.count + spans.count; total = lives.total + spans.total; longest = max lives.longest spans.longest }

-- the past lives of all threads, whatever numbers they had
abbrev pub past_lives : State → List TimedTurn → PastLives
past_lives s turns = fold (λ lives t. with_lives lives (spans_in life_change turns t)) no_lives (numbers s.records)

-- The cells of all actors: the counts over all turns, the numbers of refused commands and wakes, and of commands never
-- made, and the lives of the threads that have ended.
unfoldable pub total_cells : Moment → List TimedTurn → List Cell
total_cells m turns = cells (past_lives m.world.state turns)
  where
    cells : PastLives → List Cell
    cells lives =
        number (length turns) ∷ number (total_of quanta_in (actor_turns turns)) ∷ number (total_of ticks_in (actor_turns turns))
        ∷ number (total_of refusals_in (actor_turns turns)) ∷ number (length m.world.commands) ∷ span_cells lives.count lives.total lives.longest

-- the line or the row of a subject, or nothing if it doesn't exist
abbrev pub subject_text : Layout → Moment → ℕ → List TimedTurn → Subject → ℕ → List ℕ
subject_text layout m end turns Thread t =
    option_map_or (λ row. told_text layout Thread t row.name (thread_cells m.world.state turns t row)) (thread_row m.world.state t) []
subject_text layout m end turns Currency c =
    option_map_or (λ name. told_text layout Currency c name (currency_cells m.world.state turns c)) (currency_name m.world.state c) []
subject_text layout m end turns Processor p = told_text layout Processor p [] (processor_cells m end (actor_turns turns) p)
subject_text layout m end turns Total n = told_text layout Total n [] (total_cells m turns)

-- the number of subjects of this kind, those that don't exist any more included; base is no subject
abbrev pub count_of : State → Subject → ℕ
count_of s Thread = length s.records
count_of s Currency = length (drop 1 s.currencies)
count_of s Processor = s.limits.processors
count_of s Total = 1

-- the lines or rows of all subjects of this kind
abbrev pub subjects_text : Layout → Moment → ℕ → List TimedTurn → Subject → List ℕ
subjects_text layout m end turns subject = flat_map (subject_text layout m end turns subject) (range_with_len 1 (count_of m.world.state subject))

-- the report of a program that has come to this moment by these turns, and whose play ends at this time
abbrev pub timed_report_of : Program → Moment → ℕ → List TimedTurn → List ℕ
timed_report_of program m end turns = codes "report" ++ (newline ++ flat_map (subjects_text InLine m end turns) all_subjects)

-- The early end of a play that has come to this moment by this many turns, or none unless another turn would follow.
abbrev pub early_end : Program → Moment → ℕ → Option EarlyEnd
early_end program m made = option_map (λ due. record { time = m.time; end = end_of program; turns = made }) (following program m)

-- the line that says so: the time of the last turn, the end that the input gives, and the number of turns
abbrev pub early_line : EarlyEnd → List ℕ
early_line early =
    codes "ended at " ++ (decimal early.time ++ (codes " of " ++ (decimal early.end ++ (codes ": " ++ (decimal early.turns ++ (codes " turns made" ++ newline))))))

-- that line, or nothing if the play came to its end
abbrev pub early_text : Option EarlyEnd → List ℕ
early_text early = option_map_or early_line early []

-- the report of a timed program that has come to this moment by these turns; the line of an early end is its last
abbrev pub report_at : Program → Moment → List TimedTurn → List ℕ
report_at program m turns = timed_report_of program m (ended_at program m) turns ++ early_text (early_end program m (length turns))

-- the report of a timed program that makes these turns
abbrev pub report_after : Program → List TimedTurn → List ℕ
report_after program turns = report_at program (moment_after_all (opening_moment program) turns) turns

-- the report of a timed program
abbrev pub timed_report : Program → List ℕ
timed_report program = report_after program (timed_turns program)
