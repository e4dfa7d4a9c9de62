-- A timekeeper before the first turn, and one more turn, which it follows.
use Rattle.std.specs.Prelude.{◌≡◌, ℕ, ◌+◌, ◌<◌, ◌≤◌, ◌^◌, ◌++◌, ◌||◌, false, Option, None, List, [], ◌∷◌, length, replicate, vec_len}
use Rattle.lot_machine.specs.declared.event.Event.{Event}
use Rattle.lot_machine.specs.declared.reply.Reply.{Reply}
use Rattle.lot_machine.specs.Bounds.{IsWithinBounds}
use Rattle.lot_machine.specs.State.{State, opening}
use Rattle.lot_simulation.specs.declared.timed.Sleeper.{Sleeper}
use Rattle.lot_simulation.specs.Timed.{Moment, TimedTurn, alarms_after, clocks_after, is_idle_draw, is_refusal}
use Rattle.lot_simulation.specs.World.{Program, sleeper_on}
use Rattle.lot_simulation.specs.World.TurnAnswer.{Answered}
use Rattle.lot_engine.specs.Seen.{Seen, world_of}
use Rattle.lot_playback.specs.declared.timekeeper.Timekeeper.{Timekeeper}
use Rattle.lot_playback.specs.InTime.{AreAlarms, CanFollow, HasDues, HasFollowed, HasRoomFor, alarms_in}
use Rattle.lot_playback.specs.Owed.{Answers}
use Rattle.lot_playback.specs.TicksBelow.{HasFoundFor}

-- the timekeeper of this program, opened with this system, has followed no turn
pub record IsOpened (program : Program) (seen : Seen) (timekeeper : Timekeeper) : Type 0 where
  -- the moment is the one before the first turn: all clocks are at 0, nobody sleeps, and nothing was refused
  pub time : timekeeper.clocks.time ≡ 0
  pub clocks : timekeeper.clocks.processors.items ≡ replicate program.limits.processors (record { time = 0; waits = false; idle = 0 })
  pub alarms : timekeeper.alarms.threads.items ≡ replicate program.limits.threads None
  pub refused : timekeeper.has_refused ≡ false
  -- the alarms are in order, and if the system is the program's, the tables have room for it
  pub sleeping : AreAlarms program.limits.processors timekeeper.alarms
  pub room : seen.setting.program ≡ program → HasRoomFor program timekeeper
  -- the records are those of no turns
  pub followed : HasFollowed [] 0 timekeeper
  pub dues : HasDues (opening program.limits) [] 0 (opening program.limits) timekeeper

-- a turn as a timekeeper hears of it: the system after it, its time and actor, its event and reply, and the thread that
-- goes to sleep in it, if one does
pub record ToldTurn : Type 0 where
  pub seen : Seen
  pub time : ℕ
  pub actor : ℕ
  pub event : Event
  pub reply : Reply
  pub sleeper : Option Sleeper

-- the turn has this time, event, reply and system
pub record IsTold (told : ToldTurn) (turn : TimedTurn) : Type 0 where
  pub time : turn.time ≡ told.time
  pub answer : turn.turn.answer ≡ Answered told.event told.reply
  pub world : turn.turn.world ≡ world_of told.seen

-- The dues are those of these turns, the first of which was made in the first state, and which led to the other. There
-- the event has this reply, and the search has found the currencies above the thread that ran.
pub record HasDuesBefore (told : ToldTurn) (first before : State) (done : List TimedTurn) (n : ℕ) (timekeeper : Timekeeper) : Type 0 where
  pub few : n < 2 ^ 24
  pub dues : HasDues first done n before timekeeper
  pub answers : Answers before told.event told.reply (world_of told.seen).state
  pub found : HasFoundFor before told.reply timekeeper.currencies.above

-- the timekeeper has followed earlier turns, and can follow this one: each table and count has room for it
pub record CanFollowTurn (told : ToldTurn) (timekeeper : Timekeeper) : Type 0 where
  -- the limits on processors, threads and currencies
  pub bounds : IsWithinBounds told.seen.setting.program.limits
  pub processors : vec_len timekeeper.clocks.processors ≤ 64
  pub threads : vec_len timekeeper.ready.threads ≤ 4096
  pub currencies : vec_len timekeeper.currencies.ticks ≤ timekeeper.currencies.above.layout.currencies
  -- the alarms are in order, and there is one for each thread that goes to sleep or wakes
  pub sleeping : AreAlarms (vec_len timekeeper.clocks.processors) timekeeper.alarms
  pub sleeper : CanFollow told.actor (vec_len timekeeper.clocks.processors) (length timekeeper.alarms.threads.items) told.sleeper
  -- the records are those of earlier turns, which led to the state of this one
  pub followed : (done : List TimedTurn) × (n : ℕ) × (n < 2 ^ 31) × HasFollowed done n timekeeper
  pub dues : (first before : State) × (done : List TimedTurn) × (n : ℕ) × HasDuesBefore told first before done n timekeeper

-- the timekeeper has followed this turn: its moment is the one after it, and its records include it
pub record FollowsTurn (told : ToldTurn) (old new : Timekeeper) : Type 0 where
  -- the moment is the one after the turn: its time, its clocks, its alarms, and whether a refusal came
  pub time : new.clocks.time ≡ told.time
  pub clocks : new.clocks.processors.items ≡ clocks_after (world_of told.seen).state old.clocks.processors.items (record { time = told.time; actor = told.actor }) (is_idle_draw (Answered told.event told.reply))
  pub alarms : (m : Moment) → m.alarms ≡ alarms_in old.alarms.threads.items → length m.clocks ≡ length old.clocks.processors.items
      → (0 < told.actor → told.actor ≤ length old.clocks.processors.items → told.sleeper ≡ sleeper_on m.world told.actor)
      → alarms_in new.alarms.threads.items ≡ alarms_after m told.time told.actor
  pub refused : new.has_refused ≡ (old.has_refused || is_refusal (Answered told.event told.reply))
  -- the alarms stay in order, and the tables keep their sizes
  pub sleeping : AreAlarms (vec_len old.clocks.processors) new.alarms
  pub room : (program : Program) → HasRoomFor program old → HasRoomFor program new
  -- the records of any turns become those of these turns and this one
  pub followed : (done : List TimedTurn) (n : ℕ) (turn : TimedTurn) → IsTold told turn → HasFollowed done n old → HasFollowed (done ++ turn ∷ []) (n + 1) new
  pub dues : (first before : State) (done : List TimedTurn) (n : ℕ) (turn : TimedTurn) → IsTold told turn → HasDuesBefore told first before done n old
      → HasDues first (done ++ turn ∷ []) (n + 1) (world_of told.seen).state new
