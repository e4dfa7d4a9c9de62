-- Workers at the seats of a baton station.
use Rattle.std.specs.Prelude.{◌≡◌, ◌⊎◌, ℕ, ◌+◌, ◌<◌, List, Option, Some, None, length}
use Rattle.lot_simulation.specs.World.{Program}
use Rattle.lot_engine.specs.declared.fault.TurnFault.{TurnFault}
use Rattle.lot_engine.specs.declared.turn.Work.{Work}
use Rattle.lot_engine.specs.Seen.{Seen}
use Rattle.lot_engine.specs.Turns.{IsWorkOf}
use Rattle.lot_station.specs.BatonSeats.{Seat}
use Rattle.lot_station.specs.BatonViews.{Extends}
use Rattle.lot_station.specs.Settings.{IsLegalIn, turns_by}
use Rattle.lot_processors.specs.Workers.{EachSeat, IsLastWork, Stops, turns_for}

-- ---- turns

-- the number of turns that a seat has made, in the history that it has seen
abbrev pub made_by : Seat → ℕ
made_by s = turns_by s.actor s.seen.history

-- the new seat has the old one's station and actor, and the history that it has seen extends the old one's
pub record Continues (before after : Seat) : Type 0 where
  pub station : after.station ≡ before.station
  pub actor : after.actor ≡ before.actor
  pub begins : Extends after.seen before.seen

-- the seat has made n more turns
pub record HasMade (n : ℕ) (before after : Seat) : Type 0 where
  pub continues : Continues before after
  pub turns : made_by after ≡ made_by before + n

-- ---- faults

-- The fault stops a turn of the seat's actor after the legal history that the seat has seen. The work at hand was the
-- actor's after a prefix of it, the actor has made no turn since, and it has no later work to try.
pub record StopsTurn (program : Program) (s : Seat) (fault : TurnFault) : Type 0 where
  pub work : Option Work
  pub earlier : Seen
  pub had : IsWorkOf earlier s.actor work
  pub legal : IsLegalIn s.seen
  pub begins : Extends s.seen earlier
  pub since : turns_by s.actor s.seen.history ≡ turns_by s.actor earlier.history
  pub stops : Stops program s.actor work s.seen fault
  pub last : IsLastWork work fault

-- the seat has made fewer than n turns, and then the fault stopped its next turn
pub record HasStopped (program : Program) (n : ℕ) (fault : TurnFault) (before after : Seat) : Type 0 where
  pub made : ℕ
  pub fewer : made < n
  pub turns : HasMade made before after
  pub stops : StopsTurn program after fault

-- ---- the seats of a run

-- the seat has made all of its actor's turns in the program, and stores no fault
pub record HasMadeAll (program : Program) (before after : Seat) : Type 0 where
  pub made : HasMade (turns_for program before.actor) before after
  pub no_fault : after.stopped ≡ None

-- the seat has made all its turns, or a fault stopped it before, which it stores
abbrev pub HasWorked : Program → Seat → Seat → Type 0
HasWorked program before after =
    HasMadeAll program before after
    ⊎ ((fault : TurnFault) × (after.stopped ≡ Some fault) × HasStopped program (turns_for program before.actor) fault before after)

-- each seat has made all its turns
abbrev pub AllMade : Program → List Seat → List Seat → Type 0
AllMade program before after = EachSeat before after (λ k s t. HasMadeAll program s t)

-- The fault stopped some seat, which does not store it. Each seat before it has made all its turns, and each seat
-- after it has worked.
pub record FirstStops (program : Program) (fault : TurnFault) (before after : List Seat) : Type 0 where
  pub place : ℕ
  pub there : place < length before
  pub earlier : EachSeat before after (λ k s t. k < place → HasMadeAll program s t)
  pub stopped : EachSeat before after (λ k s t. k ≡ place → HasStopped program (turns_for program s.actor) fault s t × (t.stopped ≡ None))
  pub later : EachSeat before after (λ k s t. place < k → HasWorked program s t)

-- The fault was taken from some seat; no seat before it had one.
pub record IsFirstFault (found : TurnFault) (before after : List Seat) : Type 0 where
  pub place : ℕ
  pub there : place < length before
  pub fault : EachSeat before after (λ k s t. k ≡ place → (s.stopped ≡ Some found) × (t ≡ record s { stopped = None }))
  pub earlier : EachSeat before after (λ k s t. k < place → s.stopped ≡ None)
  pub others : EachSeat before after (λ k s t. ¬ (k ≡ place) → t ≡ s)
