-- The threads after an event, and the thread that its reply names.
use Rattle.std.specs.Prelude.{◌≡◌, ◌⊎◌, ℕ, ◌+◌, ◌<◌, ◌≤◌, ⊤, Bool, true, false, Option, Some, None, List, [], length, slice_get, option_map, unwrap_or}
use Rattle.lot_machine.specs.declared.event.Event.{Event}
use Rattle.lot_machine.specs.declared.event.Event.TheVariants as event
use Rattle.lot_machine.specs.declared.record.Record.{Record}
use Rattle.lot_machine.specs.declared.record.Thread.{Thread}
use Rattle.lot_machine.specs.declared.reply.Reply.{Reply}
use Rattle.lot_machine.specs.declared.reply.Reply.TheVariants as reply
use Rattle.lot_machine.specs.Bounds.{IsBetween}
use Rattle.lot_machine.specs.Named.{thread_given}
use Rattle.lot_machine.specs.Numbered.{at_number, set_number}
use Rattle.lot_simulation.specs.declared.script.ScriptLine.{ScriptLine}
use Rattle.lot_machine.specs.Actions.{ScriptTrap}
use Rattle.lot_machine.specs.declared.trap.Trap.TheVariants as script_trap
use Rattle.lot_simulation.specs.Script.{Context, Slice}
use Rattle.lot_machine.specs.Places.{next_place, placed}
use Rattle.lot_machine.specs.State.{State, free_threads, thread_at}
use Rattle.lot_simulation.specs.World.{Program, event_of_slice, new_context, number_delivered}
use Rattle.lot_script.specs.Places.{Place, first_place, context_at}
use Rattle.lot_script.specs.Slices.{Parts}
use Rattle.lot_engine.specs.declared.turn.Done.{Done}

-- ---- the threads after an event

-- threads, the number of records and the sizes are unchanged
pub record KeepsThreads (s after : State) : Type 0 where
  pub threads : after.threads ≡ s.threads
  pub records : length after.records ≡ length s.records
  pub limits : after.limits ≡ s.limits

-- no thread is made: threads are unchanged, or one is removed; the number of records and the sizes are unchanged
pub record MakesNone (s after : State) : Type 0 where
  pub threads : (after.threads ≡ s.threads) ⊎ ((t : ℕ) × (after.threads ≡ set_number s.threads t None))
  pub records : length after.records ≡ length s.records
  pub limits : after.limits ≡ s.limits

-- One more element of the list has this number: the first of these free places, each of which is within the list, or
-- the next number if none is free.
pub record IsNext {A : Type 0} (xs : List A) (free : List ℕ) (n : ℕ) : Type 0 where
  pub number : n ≡ next_place xs free + 1
  pub within : (place : ℕ) → slice_get free 0 ≡ Some place → place < length xs

-- one more thread, which has this number and one of the scripts
pub record OneMore (s after : State) (n : ℕ) : Type 0 where
  pub next : IsNext s.threads (free_threads s) n
  pub thread : Thread
  pub threads : after.threads ≡ placed s.threads (free_threads s) (Some thread)
  pub records : (r : Record) → length after.records ≡ length (placed s.records (free_threads s) r)
  pub script : IsBetween 1 s.limits.scripts thread.script
  pub limits : after.limits ≡ s.limits
  pub room : free_threads s ≡ [] → length s.threads + 1 ≤ s.limits.threads

-- a command that makes no thread leaves the threads unchanged, or removes one
abbrev pub MakesIn : State → State → Option ℕ → Type 0
MakesIn s after None = MakesNone s after
MakesIn s after (Some n) = OneMore s after n

-- the reply to a command names the new thread, if there is one
abbrev pub MakesThread : State → State → Reply → Type 0
MakesThread s after r = MakesIn s after (thread_given r)

-- the script of the thread with this number, if it is there
abbrev pub script_in : State → ℕ → ℕ
script_in s n = unwrap_or (option_map (λ t. t.script) (thread_at s.threads n)) 0

-- the contexts of the threads of one state in another: a new thread's takes the place of its number
abbrev pub contexts_with : Program → State → State → List Context → Option ℕ → List Context
contexts_with program s after contexts None = contexts
contexts_with program s after contexts (Some n) = placed contexts (free_threads s) (new_context program (script_in after n))

-- the reply to a draw names one of this many threads, if any
abbrev pub OfDraw : ℕ → Reply → Type 0
OfDraw count (reply.Winner t number total delivered) = IsBetween 1 count t
OfDraw count reply.Idle = ⊤
OfDraw count (reply.Refused why) = ⊤
OfDraw count other = ⊥

-- the reply to an expiry or a trap names this thread, if any
abbrev pub OfRun : ℕ → Reply → Type 0
OfRun t (reply.Expired u ticks) = u ≡ t
OfRun t (reply.Trapped u ticks outcome ends) = u ≡ t
OfRun t (reply.Refused why) = ⊤
OfRun t other = ⊥

-- ---- slices as turns

-- a slice's result and end, as a slice of the definitions
abbrev pub done_of : Parts → Slice
done_of given = record { ticks = given.ticks; trap = given.trap; end = context_at given.lines given.end }

-- the slice's result: its ticks and trap, and the accumulator at its end
abbrev pub did : Parts → Done
did given = record { ticks = given.ticks; trap = given.trap; accumulator = given.end.accumulator }

-- the event of a turn with this slice's result; without a slice the processor draws
abbrev pub event_done : ℕ → ℕ → Option Done → Event
event_done p drawn None = event.Draw p drawn
event_done p drawn (Some done) = event_of_slice p drawn (record { ticks = done.ticks; trap = done.trap; end = record { rest = []; accumulator = done.accumulator } })

-- the event of a turn with this slice; without one the processor draws
abbrev pub event_given : ℕ → ℕ → Option Parts → Event
event_given p drawn None = event.Draw p drawn
event_given p drawn (Some given) = event_of_slice p drawn (done_of given)

-- whether the trap unlocks a mutex
abbrev pub unlocks : Option ScriptTrap → Bool
unlocks (Some (script_trap.Unlock mutex drawn)) = true
unlocks other = false

-- whether the event consumes a drawn number: a draw does, and a slice that unlocks
abbrev pub needs_number : Option Done → Bool
needs_number None = true
needs_number (Some done) = unlocks done.trap

-- the reply is to a draw among this many threads, or to the slice of one of them
abbrev pub OfGiven : ℕ → ℕ → Option Parts → Reply → Type 0
OfGiven count t None r = OfDraw count r
OfGiven count t (Some given) r = IsBetween 1 count t × OfRun t r

-- ---- places

-- the place, with any delivered number as its accumulator
abbrev pub delivered_to_place : Option ℕ → Place → Place
delivered_to_place None place = place
delivered_to_place (Some number) place = record place { accumulator = number }

-- the thread's place
abbrev pub place_of : List Place → ℕ → Place
place_of places t = unwrap_or (at_number places t) first_place

-- The places after a turn: a winner has the number delivered to it, and the thread that ran is at its slice's end,
-- with the number that it received.
abbrev pub places_after : List Place → Option Parts → Reply → List Place
places_after places None (reply.Winner t number total delivered) = set_number places t (delivered_to_place delivered (place_of places t))
places_after places (Some given) (reply.Trapped t ticks outcome ends) = set_number places t (delivered_to_place (number_delivered outcome) given.end)
places_after places (Some given) (reply.Expired t ticks) = set_number places t given.end
places_after places given other = places

-- the slice of these lines with this budget and result, from one place to the other
abbrev pub slice_between : List ScriptLine → Place → ℕ → Done → Place → Parts
slice_between lines start budget done end = record { lines = lines; start = start; budget = budget; ticks = done.ticks; trap = done.trap; end = end }

-- the places after the thread that ran gets the number that it received
abbrev pub places_received : List Place → Reply → List Place
places_received places (reply.Trapped t ticks outcome ends) = set_number places t (delivered_to_place (number_delivered outcome) (place_of places t))
places_received places other = places
