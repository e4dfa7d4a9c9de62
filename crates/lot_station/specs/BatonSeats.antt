-- Seats in contracts.
use Rattle.std.specs.Prelude.{◌≡◌, ℕ, ◌+◌, Option, Some, None, List, [], ◌∷◌, length, slice_get}
use Rattle.atomic_table.specs.Seated.{TableId}
use Rattle.lot_script.specs.Slices.{Parts}
use Rattle.lot_engine.specs.declared.fault.TurnFault.{TurnFault}
use Rattle.lot_engine.specs.declared.counts.Counts.{Counts}
use Rattle.lot_engine.specs.declared.turn.Answer.{Answer}
use Rattle.lot_engine.specs.Counted.{counted_with}
use Rattle.lot_engine.specs.Seen.{Seen, after_turn}
use Rattle.lot_engine.specs.Turns.{Answers, Goes}
use Rattle.lot_station.specs.declared.baton.view.Claim.{Claim}
use Rattle.lot_station.specs.Settings.{IsLegalIn, counts_in, nothing_seen, turns_by}
use Rattle.lot_station.specs.BatonViews.{claim, Extends}

-- ---- seats and stations

-- a seat: its station, its actor, the system as it last saw it, and the fault that stopped its worker
pub record Seat : Type 0 where
  pub station : TableId
  pub actor : ℕ
  pub seen : Seen
  pub stopped : Option TurnFault

-- a seat with these four fields
abbrev pub seat : TableId → ℕ → Seen → Option TurnFault → Seat
seat station actor seen stopped = record { station = station; actor = actor; seen = seen; stopped = stopped }

-- a station: its queue, and its last actor
pub record Baton : Type 0 where
  pub id : TableId
  pub processors : ℕ

-- a station with these two fields
abbrev pub baton : TableId → ℕ → Baton
baton id processors = record { id = id; processors = processors }

-- the system as the first claim saw it
abbrev pub seen_in : List Claim → Seen
seen_in [] = nothing_seen
seen_in (c ∷ cs) = c.seen

-- a seat's claim: its own actor
abbrev pub claim_of : Seat → Claim
claim_of s = claim s.actor (s.actor + 1) s.seen

-- the seat is one that `open` dealt with the station
abbrev pub IsSeatOf : Baton → Seat → Type 0
IsSeatOf station s = (s.station ≡ station.id) × (s.seen.setting.program.limits.processors ≡ station.processors)

-- the counters of the turns of the seat's actor in the history that it has seen
abbrev pub seat_counts : Seat → Counts
seat_counts s = counts_in s.seen s.actor

-- ---- calls

-- The new seat has the station, actor, program, room and stored fault of the old.
pub record IsSameSeat (old new : Seat) : Type 0 where
  pub station : new.station ≡ old.station
  pub actor : new.actor ≡ old.actor
  pub setting : new.seen.setting ≡ old.seen.setting
  pub stopped : new.stopped ≡ old.stopped

-- The seat has seen a legal history of its program and room that extends the one it had seen without a turn of its
-- own, so its counters stay.
pub record Looks (old new : Seat) : Type 0 where
  pub legal : IsLegalIn new.seen
  pub begins : Extends new.seen old.seen
  pub turns : turns_by old.actor new.seen.history ≡ turns_by old.actor old.seen.history
  pub counts : counts_in new.seen old.actor ≡ seat_counts old

-- The seat has seen a legal history that extends the one it had seen and ends with this turn, its only further one.
-- The result is that turn's, and the counters grow by it.
pub record Turns (old : Seat) (given : Option Parts) (answer : Answer) (new : Seat) : Type 0 where
  pub legal : IsLegalIn new.seen
  pub before : Seen
  pub begins : Extends before old.seen
  pub goes : Goes before old.actor given
  pub ends : new.seen ≡ after_turn before old.actor
  pub answered : Answers before old.actor answer
  pub turns : turns_by old.actor new.seen.history ≡ turns_by old.actor old.seen.history + 1
  pub counts : counts_in new.seen old.actor ≡ counted_with (seat_counts old) answer.reply

-- the system's history extends the one that the seat has seen, without a turn of its own
pub record Shows (x : Seen) (s : Seat) : Type 0 where
  pub begins : Extends x s.seen
  pub turns : turns_by s.actor x.history ≡ turns_by s.actor s.seen.history

-- ---- lists of seats

-- a seat for each actor from 0 on, in order, each of which has seen this system
abbrev pub Dealt : TableId → Seen → List Seat → Type 0
Dealt station seen seats = (k : ℕ) (s : Seat) → slice_get seats k ≡ Some s → s ≡ seat station k seen None

-- there is one seat for each actor, in order
abbrev pub HasEachSeat : ℕ → List Seat → Type 0
HasEachSeat processors seats =
    (length seats ≡ processors + 1) × ((k : ℕ) (s : Seat) → slice_get seats k ≡ Some s → s.actor ≡ k)
