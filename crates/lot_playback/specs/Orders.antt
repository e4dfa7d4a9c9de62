-- The next turn of a play.
use Rattle.std.specs.Prelude.{◌≡◌, ℕ, ◌≤◌, None, IsSome, length, take}
use Rattle.lot_program.specs.Programs.{IsProgram}
use Rattle.lot_playback.specs.InTime.{IsFollowed}
use Rattle.lot_engine.specs.Playing.{HasPlayed}
use Rattle.lot_engine.specs.Seen.{Seen}
use Rattle.lot_playback.specs.declared.timekeeper.Timekeeper.{Timekeeper}
use Rattle.lot_playback.specs.declared.playback.Order.{Order}
use Rattle.lot_playback.specs.declared.playback.Order.TheVariants.{Scheduled, InTime}

-- the number of turns made by a system at this position
abbrev pub made_in : Seen → Order → ℕ
made_in seen (Scheduled place) = place
made_in seen (InTime timekeeper) = length seen.history

-- the system has played its program's schedule up to this place, and has room for the rest
pub record IsAtPlace (seen : Seen) (place : ℕ) : Type 0 where
  pub legal : IsProgram seen.setting.program
  pub untimed : seen.setting.program.duration ≡ None
  pub room : length seen.setting.program.schedule ≤ seen.setting.room
  pub played : HasPlayed seen.setting.program (take place seen.setting.program.schedule) seen

-- the system has made turns of its timed program, and these are its records
pub record IsAtTime (seen : Seen) (timekeeper : Timekeeper) : Type 0 where
  pub timed : IsSome seen.setting.program.duration
  pub followed : IsFollowed seen.setting.program seen timekeeper

-- the system is at this position, with a schedule or timed
abbrev pub IsInOrder : Seen → Order → Type 0
IsInOrder seen (Scheduled place) = IsAtPlace seen place
IsInOrder seen (InTime timekeeper) = IsAtTime seen timekeeper
