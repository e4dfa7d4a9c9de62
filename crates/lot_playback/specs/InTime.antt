-- Timed turns of a system.
use Rattle.std.specs.Prelude.{◌≡◌, ℕ, ◌+◌, ◌-◌, ◌<◌, ◌≤◌, ◌*◌, ◌^◌, ◌==◌, nat_le, Bool, true, false, Option, Some, None, List, [], ◌∷◌, ◌++◌, length, map, take, drop, slice_index, slice_index_or, All, if◌then◌else◌}
use Rattle.lot_machine.specs.declared.trap.Trap.TheVariants as action
use Rattle.lot_machine.specs.declared.event.Event.{Event}
use Rattle.lot_machine.specs.declared.event.Event.TheVariants as event
use Rattle.lot_machine.specs.declared.reply.Outcome.TheVariants as outcome
use Rattle.lot_machine.specs.declared.reply.Reply.{Reply}
use Rattle.lot_machine.specs.declared.reply.Reply.TheVariants as reply
use Rattle.lot_simulation.specs.declared.timed.Clock.{Clock}
use Rattle.std.specs.List.{flat_map, range_with_len}
use Rattle.std.specs.Option.{IfSome, option_flatten, option_map_or}
use Rattle.lot_machine.specs.Bounds.{IsBetween, IsWithinBounds}
use Rattle.lot_machine.specs.Numbered.{at_number, numbers}
use Rattle.lot_machine.specs.State.{State, opening}
use Rattle.lot_simulation.specs.declared.timed.Due.{Due}
use Rattle.lot_simulation.specs.declared.timed.Sleeper.{Sleeper}
use Rattle.lot_machine.specs.Actions.{ScriptTrap}
use Rattle.lot_simulation.specs.declared.timed.SpanChange.{SpanChange}
use Rattle.lot_simulation.specs.declared.timed.SpanChange.TheVariants.{Nobody, Anew, Begins, Ends}
use Rattle.lot_simulation.specs.declared.timed.Spans.{Spans}
use Rattle.lot_simulation.specs.Report.{total_of}
use Rattle.lot_simulation.specs.Timed.{Moment, TimedTurn, alarm_due, earliest, moment_after_all, next_due, opening_moment, timed_room, timed_turns, turns_from}
use Rattle.lot_simulation.specs.TimedReport.{actor_turns, life_change, mutex_change, refusals_after, refusals_in, refused_traps_in, reply_change, spans_after, spans_in}
use Rattle.lot_simulation.specs.World.{Program, TurnAnswer, TurnMade}
use Rattle.lot_playback.specs.declared.alarms.Alarms.{Alarms}
use Rattle.lot_playback.specs.declared.timekeeper.Timekeeper.{Timekeeper}
use Rattle.lot_script.specs.Slices.{Parts}
use Rattle.lot_engine.specs.Playing.{turn_in}
use Rattle.lot_engine.specs.Searching.{HasLayoutFor}
use Rattle.lot_engine.specs.Seen.{Seen, commands_made, world_of}
use Rattle.lot_playback.specs.declared.sharers.Sharers.TheVariants.{Threads}
use Rattle.lot_playback.specs.Owed.{AreDue, AreReadyFor}
use Rattle.lot_playback.specs.TicksBelow.{AreCurrencies}

-- the moment of a system at this time, with these clocks and alarms, and without a refusal so far
abbrev pub moment_of : Seen → ℕ → List Clock → (ℕ → Option ℕ) → Moment
moment_of seen time clocks alarms = record { world = world_of seen; time = time; clocks = clocks; times = drop (commands_made seen) seen.setting.program.times; alarms = alarms; has_refused = false }

-- ---- alarms

-- the alarms in a table, from thread 1
abbrev pub alarms_in : List (Option ℕ) → ℕ → Option ℕ
alarms_in threads t = option_flatten (at_number threads t)

-- the timer's turn for a thread, if the thread sleeps, after this many processors
abbrev pub alarm_at : ℕ → (ℕ → Option ℕ) → ℕ → List Due
alarm_at processors alarms t = option_map_or (λ time. record { time = time; actor = processors + t } ∷ []) (alarms t) []

-- each thread that sleeps is one of this many
abbrev pub AreNumbered : ℕ → (ℕ → Option ℕ) → Type 0
AreNumbered count alarms = (t time : ℕ) → alarms t ≡ Some time → IsBetween 1 count t

-- no thread above the highest sleeps, and the next turn is the earliest of the others', after this many processors
pub record AreAlarms (processors : ℕ) (alarms : Alarms) : Type 0 where
  pub few : length alarms.threads.items ≤ 4096
  pub highest : alarms.highest ≤ length alarms.threads.items
  pub asleep : (t time : ℕ) → alarms_in alarms.threads.items t ≡ Some time → t ≤ alarms.highest
  pub next : alarms.next ≡ earliest (flat_map (alarm_at processors (alarms_in alarms.threads.items)) (range_with_len 1 alarms.highest))

-- the next turn of the alarms is the timer's in the system's world
abbrev pub IsNextAlarm : Program → Seen → Alarms → Type 0
IsNextAlarm program seen alarms = alarms.next ≡ earliest (flat_map (alarm_due program (alarms_in alarms.threads.items)) (numbers (world_of seen).state.records))

-- the threads that go to sleep or wake in a turn of the actor are among this many
pub record CanFollow (actor processors threads : ℕ) (sleeper : Option Sleeper) : Type 0 where
  pub sleeps : 0 < actor → actor ≤ processors → IfSome sleeper (λ s. IsBetween 1 threads s.thread)
  pub wakes : processors < actor → actor ≤ processors + threads

-- the earlier of two turns, or the first if both have one time; none if there is neither
abbrev pub sooner_of : Option Due → Option Due → Option Due
sooner_of None other = other
sooner_of (Some due) None = Some due
sooner_of (Some due) (Some other) = if nat_le due.time other.time then Some due else Some other

-- each processor's idle time is within the range of this many turns
abbrev pub HaveIdled : ℕ → List Clock → Type 0
HaveIdled turns clocks = All (λ clock. clock.idle ≤ turns * 2 ^ 32) clocks

-- the cost of a slice: its work and one tick for its trap, or all of its budget if the quantum ends with it (4.5)
abbrev pub cost_of_slice : Parts → ℕ
cost_of_slice given = made given.trap
  where
    made : Option ScriptTrap → ℕ
    made None = given.budget
    made (Some trap) = given.ticks + 1

-- ---- the records from turn to turn

-- whether the event is a lock
abbrev pub is_locking : Event → Bool
is_locking (event.Trap p ran (action.Lock mutex)) = true
is_locking other = false

-- the change of waits for mutexes by a reply, given whether its event is a lock
abbrev pub change_by : Bool → Reply → SpanChange
change_by locks (reply.Thread thread) = Anew thread
change_by locks (reply.Funded ticket thread) = Anew thread
change_by true (reply.Trapped thread ticks outcome.Waits ends) = Begins thread
change_by locks (reply.Trapped thread ticks (outcome.Passed to drawn) ends) = Ends to
change_by locks other = Nobody

-- a thread's spans in these turns, which are within the range of n turns
pub record IsSpans (change : TurnMade → SpanChange) (done : List TimedTurn) (n t : ℕ) (spans : Spans) : Type 0 where
  pub exact : spans ≡ spans_in change done t
  pub count : spans.count ≤ n
  pub total : spans.total ≤ n * 2 ^ 32

-- each thread's spans in these turns, from thread 1
abbrev pub AreSpans : (TurnMade → SpanChange) → List TimedTurn → ℕ → List Spans → Type 0
AreSpans change done n spans = (place : ℕ) (d : Spans) → place < length spans → IsSpans change done n (place + 1) (slice_index_or spans place d)

-- each thread's spans are unchanged, except for this change at this time
pub record HaveFollowed (time : ℕ) (change : SpanChange) (old new : List Spans) : Type 0 where
  pub count : length new ≡ length old
  pub each : (place : ℕ) (d : Spans) → place < length old → slice_index_or new place d ≡ spans_after (place + 1) time (slice_index_or old place d) change

-- each thread's spans leave room for one more
abbrev pub AreFew : List Spans → Type 0
AreFew spans = (place : ℕ) (d : Spans) → place < length spans → ((slice_index_or spans place d).count < 2 ^ 31) × ((slice_index_or spans place d).total < 2 ^ 63)

-- a thread's count of refused traps in these turns, which is within the range of n turns
pub record IsRefusedTraps (done : List TimedTurn) (n t count : ℕ) : Type 0 where
  pub exact : count ≡ refused_traps_in done t
  pub few : count ≤ n

-- each thread's count of refused traps in these turns, from thread 1
abbrev pub AreRefusedTraps : List TimedTurn → ℕ → List ℕ → Type 0
AreRefusedTraps done n counts = (place : ℕ) → place < length counts → IsRefusedTraps done n (place + 1) (slice_index counts place)

-- each thread's count of refused traps after this answer
pub record HaveCounted (answer : TurnAnswer) (old new : List ℕ) : Type 0 where
  pub count : length new ≡ length old
  pub each : (place : ℕ) → place < length old → slice_index new place ≡ refusals_after (place + 1) (slice_index old place) answer

-- each thread's count is unchanged, except for this change of one thread's
pub record HaveChanged (change : ℕ → ℕ) (thread : ℕ) (old new : List ℕ) : Type 0 where
  pub count : length new ≡ length old
  pub each : (place : ℕ) → place < length old → slice_index new place ≡ (if thread == place + 1 then change (slice_index old place) else slice_index old place)

-- the waits, lives, refused traps and refusals are those of these turns; they and the idle times are within the range
-- of n turns
pub record HasFollowed (done : List TimedTurn) (n : ℕ) (timekeeper : Timekeeper) : Type 0 where
  pub idled : HaveIdled n timekeeper.clocks.processors.items
  pub mutexes : AreSpans mutex_change done n timekeeper.mutexes.threads.items
  pub replies : AreSpans reply_change done n timekeeper.replies.threads.items
  pub lives : AreSpans life_change done n timekeeper.lives.threads.items
  pub refused_traps : AreRefusedTraps done n timekeeper.refused_traps.threads.items
  pub refused : timekeeper.refused ≡ total_of refusals_in (actor_turns done)
  pub few : timekeeper.refused ≤ n

-- The waits to run, the parts due to threads and currencies, and the ticks of the threads below currencies are those of
-- these turns, the first of which was made in the first state, and which led to the other.
pub record HasDues (first : State) (done : List TimedTurn) (n : ℕ) (s : State) (timekeeper : Timekeeper) : Type 0 where
  pub ready : AreReadyFor done n s timekeeper.ready.threads.items
  pub dues : AreDue Threads first done n s timekeeper.dues
  pub currencies : AreCurrencies first done n s timekeeper.currencies

-- the records have room for the program's processors, threads and currencies
pub record HasRoomFor (program : Program) (timekeeper : Timekeeper) : Type 0 where
  pub clocks : length timekeeper.clocks.processors.items ≡ program.limits.processors
  pub mutexes : length timekeeper.mutexes.threads.items ≡ program.limits.threads
  pub replies : length timekeeper.replies.threads.items ≡ program.limits.threads
  pub lives : length timekeeper.lives.threads.items ≡ program.limits.threads
  pub refused_traps : length timekeeper.refused_traps.threads.items ≡ program.limits.threads
  pub ready : length timekeeper.ready.threads.items ≡ program.limits.threads
  pub dues : length timekeeper.dues.places.items ≡ program.limits.threads
  pub alarms : length timekeeper.alarms.threads.items ≡ program.limits.threads
  pub ticks : length timekeeper.currencies.ticks.items ≡ program.limits.currencies
  pub currency_dues : length timekeeper.currencies.dues.places.items ≡ program.limits.currencies
  pub above : HasLayoutFor program timekeeper.currencies.above

-- ---- turns that a system has made

-- the moment of a system with these records
abbrev pub moment_in : Seen → Timekeeper → Moment
moment_in seen timekeeper = record (moment_of seen timekeeper.clocks.time timekeeper.clocks.processors.items (alarms_in timekeeper.alarms.threads.items)) { has_refused = timekeeper.has_refused }

-- the timed turns that a system has made: as many as its history has entries
abbrev pub turns_done : Program → Seen → List TimedTurn
turns_done program seen = take (length seen.history) (timed_turns program)

-- the list of the next timed turn, or the empty list at the end
abbrev pub next_turns : Program → Seen → List TimedTurn
next_turns program seen = take 1 (drop (length seen.history) (timed_turns program))

-- the turn that a system makes if this one is due
abbrev pub due_turn : Seen → Due → TimedTurn
due_turn seen due = record { time = due.time; actor = due.actor; turn = turn_in seen due.actor }

-- the system has made timed turns of the program and no others, and the records are those of these turns
pub record IsFollowed (program : Program) (seen : Seen) (timekeeper : Timekeeper) : Type 0 where
  pub program_is : seen.setting.program ≡ program
  pub room_is : seen.setting.room ≡ timed_room
  pub timer_is : seen.setting.timer ≡ true
  pub bounds : IsWithinBounds program.limits
  pub history : seen.history ≡ map (λ turn. turn.actor) (turns_done program seen)
  pub moment : moment_in seen timekeeper ≡ moment_after_all (opening_moment program) (turns_done program seen)
  pub rest : timed_turns program ≡ turns_done program seen ++ turns_from program (timed_room - length seen.history) (moment_in seen timekeeper)
  pub left : length (world_of seen).commands ≡ length (moment_in seen timekeeper).times
  pub room : HasRoomFor program timekeeper
  pub sleeping : AreAlarms program.limits.processors timekeeper.alarms
  pub sleepers : AreNumbered (length (world_of seen).state.records) (alarms_in timekeeper.alarms.threads.items)
  pub followed : HasFollowed (turns_done program seen) (length seen.history) timekeeper
  pub dues : HasDues (opening program.limits) (turns_done program seen) (length seen.history) (world_of seen).state timekeeper

-- this is the next turn, no later than the program's end and within the limit on turns
pub record IsDue (program : Program) (seen : Seen) (timekeeper : Timekeeper) (due : Due) : Type 0 where
  pub room : length seen.history < seen.setting.room
  pub first : next_due program (moment_in seen timekeeper) ≡ Some due
  pub within : due.time < 2 ^ 32

-- the system has made all turns of its timed program
pub record IsAtEnd (seen : Seen) (timekeeper : Timekeeper) : Type 0 where
  pub followed : IsFollowed seen.setting.program seen timekeeper
  pub all : turns_done seen.setting.program seen ≡ timed_turns seen.setting.program
