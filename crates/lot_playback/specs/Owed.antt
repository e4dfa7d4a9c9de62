-- The tables of threads' waits to run, and of the parts due to threads and currencies, turn by turn.
use Rattle.std.specs.Prelude.{◌≡◌, ◌⊎◌, ℕ, ◌+◌, ◌-◌, ◌*◌, ◌^◌, ◌<◌, ◌≤◌, ◌==◌, Bool, false, Option, Some, None, is_some, List, [], ◌∷◌, length, slice_index_or, if◌then◌else◌}
use Rattle.lot_machine.specs.declared.event.Event.{Event}
use Rattle.lot_machine.specs.declared.event.Event.TheVariants as event
use Rattle.lot_machine.specs.declared.reply.Reply.{Reply}
use Rattle.lot_machine.specs.declared.reply.Reply.TheVariants as reply
use Rattle.lot_machine.specs.Facts.{IsSound}
use Rattle.lot_machine.specs.Numbered.{option_any}
use Rattle.lot_machine.specs.State.{State, is_ready, status_of}
use Rattle.lot_machine.specs.Step.{step}
use Rattle.lot_simulation.specs.declared.timed.Spans.{Spans}
use Rattle.lot_simulation.specs.Timed.{TimedTurn}
use Rattle.lot_simulation.specs.TimedReport.{no_spans}
use Rattle.lot_simulation.specs.World.{TurnAnswer}
use Rattle.lot_playback.specs.declared.dues.DueTable.{DueTable}
use Rattle.lot_playback.specs.declared.dues.Owing.{Owing}
use Rattle.lot_playback.specs.declared.sharers.Sharers.{Sharers}
use Rattle.lot_playback.specs.Sharing.{due_to, makes_one, time_shared, value_in, whole_in}
use Rattle.lot_simulation.specs.TimedReport.{makes, queued, ready_in}

-- in this state the event gets this reply, and leads to the other state
abbrev pub Answers : State → Event → Reply → State → Type 0
Answers s e r after = step s e ≡ record { state = after; reply = r }

-- the event is a draw, or the end of a quantum: no thread's value changes with it, and at most one thread's status
abbrev pub IsDispatch : Event → Type 0
IsDispatch e = ((p d : ℕ) × (e ≡ event.Draw p d)) ⊎ ((p : ℕ) × (e ≡ event.Expire p))

-- the state after these turns, the first of which was made in this one
abbrev pub state_after : State → List TimedTurn → State
state_after s [] = s
state_after s (done ∷ others) = state_after done.turn.world.state others

-- whether there is a number, and it is this one
abbrev pub is_number : ℕ → Option ℕ → Bool
is_number n o = option_any (λ other. other == n) o

-- the thread that began to run, or whose quantum ended, with this reply
abbrev pub moved_thread : Reply → Option ℕ
moved_thread (reply.Winner thread number total delivered) = Some thread
moved_thread (reply.Expired thread ticks) = Some thread
moved_thread other = None

-- the time of the last of these turns, or this one without any
abbrev pub time_after : ℕ → List TimedTurn → ℕ
time_after time [] = time
time_after time (done ∷ others) = time_after done.time others

-- ---- waits to run

-- whether the thread is Ready in this state
abbrev pub is_ready_in : State → ℕ → Bool
is_ready_in s t = option_any is_ready (status_of s.records t)

-- each thread waits to run if and only if it is Ready in this state
abbrev pub AreWaiting : State → List Spans → Type 0
AreWaiting s waits = (place : ℕ) (d : Spans) → place < length waits → is_some (slice_index_or waits place d).since ≡ is_ready_in s (place + 1)

-- no thread beyond this many waits to run
abbrev pub NoneWaitsBeyond : ℕ → List Spans → Type 0
NoneWaitsBeyond count waits = (place : ℕ) (d : Spans) → count ≤ place → place < length waits → is_some (slice_index_or waits place d).since ≡ false

-- a thread's waits before a turn with this answer: none if it makes the thread
abbrev pub waits_before : TurnAnswer → ℕ → Spans → Spans
waits_before answer t waits = if makes t answer then no_spans else waits

-- each thread's waits to run are those after a turn at this time, with this answer, which led to this state
pub record HaveQueued (time : ℕ) (answer : TurnAnswer) (s : State) (old new : List Spans) : Type 0 where
  pub count : length new ≡ length old
  pub each : (place : ℕ) (d : Spans) → place < length old → slice_index_or new place d ≡ queued time (waits_before answer (place + 1) (slice_index_or old place d)) (status_of s.records (place + 1))

-- the thread's waits leave room for one more
abbrev pub HasFew : List Spans → ℕ → Type 0
HasFew waits t = (d : Spans) → 1 ≤ t → t ≤ length waits → ((slice_index_or waits (t - 1) d).count < 2 ^ 31) × ((slice_index_or waits (t - 1) d).total < 2 ^ 63)

-- The waits of this thread, if the table has it, are those after a turn at this time that led to this state. The others
-- are unchanged.
pub record HaveQueuedOne (time : ℕ) (s : State) (t : ℕ) (old new : List Spans) : Type 0 where
  pub count : length new ≡ length old
  pub each : (place : ℕ) (d : Spans) → place < length old → slice_index_or new place d ≡ (if t == place + 1 then queued time (slice_index_or old place d) (status_of s.records t) else slice_index_or old place d)

-- a thread's waits to run in these turns, which are within the range of n turns
pub record IsReadyFor (done : List TimedTurn) (n t : ℕ) (waits : Spans) : Type 0 where
  pub exact : waits ≡ ready_in done t
  pub count : waits.count ≤ n
  pub total : waits.total ≤ n * 2 ^ 32

-- each thread's waits to run in these turns, which led to this state, from thread 1
pub record AreReadyFor (done : List TimedTurn) (n : ℕ) (s : State) (waits : List Spans) : Type 0 where
  pub each : (place : ℕ) (d : Spans) → place < length waits → IsReadyFor done n (place + 1) (slice_index_or waits place d)
  pub now : AreWaiting s waits

-- ---- parts due to threads and currencies

-- these parts are due to the entry when the parts due per base unit have reached the rate
pub record IsOwed (rate parts : ℕ) (due : Owing) : Type 0 where
  pub since : due.since ≤ rate
  pub exact : due.parts + due.value * (rate - due.since) ≡ parts
  pub few : parts < 2 ^ 122

-- these parts are due to each entry when the parts due per base unit have reached this rate
abbrev pub AreOwed : ℕ → (ℕ → ℕ) → List Owing → Type 0
AreOwed rate parts dues = (place : ℕ) (d : Owing) → place < length dues → IsOwed rate (parts (place + 1)) (slice_index_or dues place d)

-- each entry has this value
abbrev pub HaveValues : (ℕ → ℕ) → List Owing → Type 0
HaveValues values dues = (place : ℕ) (d : Owing) → place < length dues → (slice_index_or dues place d).value ≡ values (place + 1)

-- the parts due after a reset of this number
abbrev pub forgotten : ℕ → (ℕ → ℕ) → ℕ → ℕ
forgotten number parts n = if number == n then 0 else parts n

-- the parts due before a turn with this answer: none to a sharer that it makes
abbrev pub parts_before : Sharers → TurnAnswer → (ℕ → ℕ) → ℕ → ℕ
parts_before sharers answer parts n = if makes_one sharers n answer then 0 else parts n

-- an entry of the table after these turns, the first of which was made in the opening state, and which led to this
-- state
pub record IsDueOne (sharers : Sharers) (opening : State) (done : List TimedTurn) (n : ℕ) (s : State) (rate number : ℕ) (due : Owing) : Type 0 where
  pub value : due.value ≡ value_in sharers s number
  pub owed : IsOwed rate (due_to sharers opening done number) due
  pub few : due_to sharers opening done number ≤ n * 2 ^ 97

-- the table after these turns, the first of which was made in the opening state, and which led to this state
pub record AreDue (sharers : Sharers) (opening : State) (done : List TimedTurn) (n : ℕ) (s : State) (table : DueTable) : Type 0 where
  pub sharers_are : table.sharers ≡ sharers
  pub state : state_after opening done ≡ s
  pub sound : IsSound s
  pub time : table.time ≡ time_after 0 done
  pub shared : table.shared_time ≡ time_shared sharers opening done
  pub short : table.shared_time ≤ n * 2 ^ 32
  pub whole : table.whole ≡ whole_in sharers s
  pub rate : table.rate ≤ n * 2 ^ 97
  pub each : (place : ℕ) (d : Owing) → place < length table.places.items → IsDueOne sharers opening done n s table.rate (place + 1) (slice_index_or table.places.items place d)
