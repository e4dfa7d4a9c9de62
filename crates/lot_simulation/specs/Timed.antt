-- Timed inputs: turns in time order, so that no turn sees the effect of a later one.
use Rattle.std.specs.Prelude.{ℕ, zero, suc, ◌+◌, ◌-◌, ◌==◌, nat_lt, nat_le, Bool, true, false, ◌&&◌, ◌||◌, Option, Some, None, is_none, List, [], ◌∷◌, ◌++◌, length, map, take, drop, replicate, unwrap_or, if◌then◌else◌}
use Rattle.std.specs.List.{flat_map, range_with_len}
use Rattle.std.specs.Option.{option_map_or}
use Rattle.lot_machine.specs.declared.event.Event.{Event}
use Rattle.lot_machine.specs.declared.event.Event.TheVariants as event
use Rattle.lot_machine.specs.declared.reply.Outcome.TheVariants as outcome
use Rattle.lot_machine.specs.declared.reply.Reply.TheVariants as reply
use Rattle.lot_machine.specs.Numbered.{at_number, numbers, set_number}
use Rattle.lot_machine.specs.State.{State, thread_on}
use Rattle.lot_machine.specs.Step.{used_there}
use Rattle.lot_simulation.specs.declared.timed.Clock.{Clock}
use Rattle.lot_simulation.specs.declared.timed.Due.{Due}
use Rattle.lot_simulation.specs.declared.timed.Sleeper.{Sleeper}
use Rattle.lot_simulation.specs.World.{Program, World, TurnAnswer, TurnMade, opening_world, processor_event, sleeper_on, system_turn}
use Rattle.lot_simulation.specs.World.TurnAnswer.{Answered}

-- a world at a time: each processor's clock, the times of the remaining commands, the wake time of each sleeping
-- thread, and whether a command or a trap was refused so far
pub record Moment : Type 0 where
  pub world : World
  pub time : ℕ  -- the time of the last turn
  pub clocks : List Clock
  pub times : List ℕ
  pub alarms : ℕ → Option ℕ  -- by the threads' numbers
  pub has_refused : Bool

-- the moment at the start, when each clock is at 0
abbrev pub opening_moment : Program → Moment
opening_moment program = record {
  world = opening_world program;
  time = 0;
  clocks = replicate program.limits.processors (record { time = 0; waits = false; idle = 0 });
  times = program.times;
  alarms = λ t. None;
  has_refused = false;
}

-- ---- whose turn is next

-- the processor's clock
abbrev pub clock_of : List Clock → ℕ → Clock
clock_of clocks p = unwrap_or (at_number clocks p) (record { time = 0; waits = true; idle = 0 })

-- the cost of a turn to its processor: nothing for a draw, the rest of the quantum for an expiry, and the work and
-- one more tick for a trap (4.5)
abbrev pub cost_of : World → Event → ℕ
cost_of w (event.Expire p) = w.state.limits.quantum - used_there w.state p
cost_of w (event.Trap p ran action) = ran + 1
cost_of w other = 0

-- the console's turn, if a command remains
abbrev pub console_due : Moment → List Due
console_due m = map (λ time. record { time = time; actor = 0 }) (take 1 m.times)

-- the timer's turn for a thread, if the thread sleeps
abbrev pub alarm_due : Program → (ℕ → Option ℕ) → ℕ → List Due
alarm_due program alarms t = option_map_or (λ time. record { time = time; actor = program.limits.processors + t } ∷ []) (alarms t) []

-- the timer's turns, one for each sleeping thread, in ascending order of threads
abbrev pub timer_due : Program → Moment → List Due
timer_due program m = flat_map (alarm_due program m.alarms) (numbers m.world.state.records)

-- the processor's turn, unless it waits
abbrev pub processor_due : Moment → ℕ → List Due
processor_due m p =
    if (clock_of m.clocks p).waits then []
    else record { time = (clock_of m.clocks p).time + cost_of m.world (processor_event m.world p); actor = p } ∷ []

-- the processors' turns, in ascending order
abbrev pub processors_due : Program → Moment → List Due
processors_due program m = flat_map (processor_due m) (range_with_len 1 program.limits.processors)

-- The turns that may come next. The timer's stand before the processors', so that a thread takes part in the draws of
-- the time at which it wakes.
abbrev pub all_due : Program → Moment → List Due
all_due program m = console_due m ++ (timer_due program m ++ processors_due program m)

-- the earlier of two turns, or the first of them if both have one time
abbrev pub sooner : Due → Option Due → Due
sooner due None = due
sooner due (Some other) = if nat_le due.time other.time then due else other

-- the earliest turn, or the first of those with the earliest time
abbrev pub earliest : List Due → Option Due
earliest [] = None
earliest (due ∷ others) = Some (sooner due (earliest others))

-- the turn, unless its time is after the end
abbrev pub within : ℕ → Option Due → Option Due
within end None = None
within end (Some due) = if nat_lt end due.time then None else Some due

-- the time at which the input ends
abbrev pub end_of : Program → ℕ
end_of program = unwrap_or program.duration 0

-- The turn that would follow if no refusal ended the play. There is none if all processors wait, no thread sleeps and
-- no command remains, or if it would come after the end.
abbrev pub following : Program → Moment → Option Due
following program m = within (end_of program) (earliest (all_due program m))

-- whether a refusal has ended the play, as one does in a strict program
abbrev pub is_stopped : Program → Moment → Bool
is_stopped program m = program.options.strict && m.has_refused

-- the next turn: the one that follows, unless a refusal has ended the play
abbrev pub next_due : Program → Moment → Option Due
next_due program m = if is_stopped program m then None else following program m

-- ---- a turn

-- whether the answer is that of an idle draw
abbrev pub is_idle_draw : TurnAnswer → Bool
is_idle_draw (Answered e reply.Idle) = true
is_idle_draw other = false

-- the clock of a processor that has been idle since its last turn, and is due for a draw at this time
abbrev pub idle_to : ℕ → Clock → Clock
idle_to time clock = record { time = time; waits = false; idle = clock.idle + (time - clock.time) }

-- the clock of a processor whose wait, if any, ends at this time
abbrev pub woken : ℕ → Clock → Clock
woken time clock = if clock.waits then idle_to time clock else clock

-- A processor's clock after a turn of the console, in the state after it. The processor's wait, if any, ends. So does
-- the slice of a thread killed there: nobody is charged for the ticks since its processor's last turn.
abbrev pub clock_after_console : State → ℕ → List Clock → ℕ → Clock
clock_after_console s time clocks p =
    if (clock_of clocks p).waits || is_none (thread_on s.records p) then idle_to time (clock_of clocks p) else clock_of clocks p

-- the clocks after a turn of the console
abbrev pub clocks_after_console : State → ℕ → List Clock → List Clock
clocks_after_console s time clocks = map (clock_after_console s time clocks) (numbers clocks)

-- The clocks after a turn of a processor, whose own clock gets the turn's time, or of the timer, which has no clock.
-- After an idle draw the processor waits; any other turn ends all waits.
abbrev pub clocks_after_processor : List Clock → Due → Bool → List Clock
clocks_after_processor clocks due true = set_number clocks due.actor (record { time = due.time; waits = true; idle = (clock_of clocks due.actor).idle })
clocks_after_processor clocks due false =
    set_number (map (woken due.time) clocks) due.actor (record { time = due.time; waits = false; idle = (clock_of clocks due.actor).idle })

-- the clocks after a turn, which led to this state
abbrev pub clocks_after : State → List Clock → Due → Bool → List Clock
clocks_after s clocks due is_idle = if due.actor == 0 then clocks_after_console s due.time clocks else clocks_after_processor clocks due is_idle

-- a turn, with its time and its actor
pub record TimedTurn : Type 0 where
  pub time : ℕ
  pub actor : ℕ
  pub turn : TurnMade

-- the turn that is due, made at this moment
abbrev pub turn_due : Program → Moment → Due → TimedTurn
turn_due program m due = record { time = due.time; actor = due.actor; turn = system_turn program m.world due.actor }

-- the alarms with this one for the thread
abbrev pub set_alarm : (ℕ → Option ℕ) → ℕ → Option ℕ → ℕ → Option ℕ
set_alarm alarms t alarm u = if u == t then alarm else alarms u

-- the alarms after a turn at this time, in which this thread, if any, went to sleep
abbrev pub alarms_asleep : (ℕ → Option ℕ) → ℕ → Option Sleeper → ℕ → Option ℕ
alarms_asleep alarms time None = alarms
alarms_asleep alarms time (Some sleeper) = set_alarm alarms sleeper.thread (Some (time + sleeper.ticks))

-- The alarms after an actor's turn at this time: a thread that goes to sleep gets one, and the timer ends that of its
-- thread. A kill ends none: the wake of the dead thread is refused.
abbrev pub alarms_after : Moment → ℕ → ℕ → ℕ → Option ℕ
alarms_after m time actor =
    if actor == 0 then m.alarms
    else if nat_le actor (length m.clocks) then alarms_asleep m.alarms time (sleeper_on m.world actor)
    else set_alarm m.alarms (actor - length m.clocks) None

-- whether a command or a trap was refused; the wake of a dead thread isn't one
abbrev pub is_refusal : TurnAnswer → Bool
is_refusal (Answered (event.Command c) (reply.Refused why)) = true
is_refusal (Answered e (reply.Trapped thread ticks (outcome.Refused why) ends)) = true
is_refusal other = false

-- the moment after the turn
abbrev pub moment_after : Moment → TimedTurn → Moment
moment_after m done = record {
  world = done.turn.world;
  time = done.time;
  clocks = clocks_after done.turn.world.state m.clocks (record { time = done.time; actor = done.actor }) (is_idle_draw done.turn.answer);
  times = if done.actor == 0 then drop 1 m.times else m.times;
  alarms = alarms_after m done.time done.actor;
  has_refused = m.has_refused || is_refusal done.turn.answer;
}

-- ---- all turns

-- the turn that is due, if one is, and the turns after it
abbrev pub due_first : Program → Moment → (TimedTurn → List TimedTurn) → Option Due → List TimedTurn
due_first program m others None = []
due_first program m others (Some due) = turn_due program m due ∷ others (turn_due program m due)

-- the turns from a moment on, up to this many
abbrev pub turns_from : Program → ℕ → Moment → List TimedTurn
turns_from program zero m = []
turns_from program (suc room) m = due_first program m (λ done. turns_from program room (moment_after m done)) (next_due program m)

-- the moment after these turns
abbrev pub moment_after_all : Moment → List TimedTurn → Moment
moment_after_all m [] = m
moment_after_all m (done ∷ others) = moment_after_all (moment_after m done) others

-- The limit on the turns of a timed input. A proof unfolds this number only on request, since the turns are defined by
-- recursion on it.
unfoldable pub timed_room : ℕ
timed_room = 16000000

-- the timed program's turns, in time order
abbrev pub timed_turns : Program → List TimedTurn
timed_turns program = turns_from program timed_room (opening_moment program)

-- the actors of the timed program's turns, in order
abbrev pub timed_schedule : Program → List ℕ
timed_schedule program = map (λ done. done.actor) (timed_turns program)

-- the moment after the timed program's last turn
abbrev pub last_moment : Program → Moment
last_moment program = moment_after_all (opening_moment program) (timed_turns program)

-- The time at which the play ends: the input's end, or the last turn's time if another turn would follow but the limit
-- on turns is reached, or a refusal ended the play.
abbrev pub ended_at : Program → Moment → ℕ
ended_at program m = made (following program m)
  where
    made : Option Due → ℕ
    made None = end_of program
    made (Some due) = m.time
