-- The seats' shares of a system's turns.
use Rattle.std.specs.Prelude.{◌≡◌, ℕ, ◌+◌, Option, Some, None, List, length, sum_by, slice_get}
use Rattle.lot_machine.specs.declared.reply.Reply.{Reply}
use Rattle.lot_simulation.specs.Report.{quanta_in, ticks_in, total_of, turns_of}
use Rattle.lot_engine.specs.declared.fault.TurnFault.{TurnFault}
use Rattle.lot_engine.specs.Seen.{Seen}
use Rattle.lot_station.specs.Settings.{times_in, turns_in}

-- a seat: its actor, its shares of the totals of all turns, quanta and ticks, and the fault that stopped its worker
pub record Holder : Type 0 where
  pub actor : ℕ
  pub turns : ℕ
  pub quanta : ℕ
  pub ticks : ℕ
  pub stopped : Option TurnFault

-- the seat with one more turn, with this reply
abbrev pub with_turn : Holder → Reply → Holder
with_turn seat r = record seat { turns = seat.turns + 1; quanta = seat.quanta + quanta_in r; ticks = seat.ticks + ticks_in r }

-- the seat of an actor, with its shares of the system's history
abbrev pub dealt : Seen → ℕ → Holder
dealt x actor = record {
  actor = actor;
  turns = times_in x actor;
  quanta = total_of quanta_in (turns_of actor (turns_in x));
  ticks = total_of ticks_in (turns_of actor (turns_in x));
  stopped = None;
}

-- there is one seat for each actor, in order, with its shares of the system's history
pub record AreDealt (x : Seen) (seats : List Holder) : Type 0 where
  pub count : length seats ≡ x.setting.program.limits.processors + 1
  pub each : (k : ℕ) (s : Holder) → slice_get seats k ≡ Some s → s ≡ dealt x k

-- there is one seat for each actor, in order
pub record InOrder (processors : ℕ) (seats : List Holder) : Type 0 where
  pub count : length seats ≡ processors + 1
  pub actors : (k : ℕ) (s : Holder) → slice_get seats k ≡ Some s → s.actor ≡ k

-- each seat's share of turns is its actor's count in the system's history
abbrev pub CountsAgree : Seen → List Holder → Type 0
CountsAgree x seats = (k : ℕ) (s : Holder) → slice_get seats k ≡ Some s → s.turns ≡ times_in x s.actor

-- the totals of the system's history are the sums of the seats' shares
pub record AddUp (x : Seen) (seats : List Holder) : Type 0 where
  pub turns : length x.history ≡ sum_by (λ s. s.turns) seats
  pub quanta : total_of quanta_in (turns_in x) ≡ sum_by (λ s. s.quanta) seats
  pub ticks : total_of ticks_in (turns_in x) ≡ sum_by (λ s. s.ticks) seats
