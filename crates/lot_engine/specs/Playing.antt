-- Turns of a schedule.
use Rattle.std.specs.Prelude.{◌≡◌, ℕ, ◌+◌, ◌≤◌, List, length}
use Rattle.lot_simulation.specs.World.{Program, TurnMade, system_turn, system_run}
use Rattle.lot_engine.specs.Seen.{Seen, world_of}

-- the actor's next turn in a system
abbrev pub turn_in : Seen → ℕ → TurnMade
turn_in seen actor = system_turn seen.setting.program (world_of seen) actor

-- After the actor's turn, or an attempt without a remaining command, the world is that of the turn, and the history
-- has at most one more entry.
pub record IsPlayed (old : Seen) (actor : ℕ) (now : Seen) : Type 0 where
  pub setting : now.setting ≡ old.setting
  pub world : world_of now ≡ (turn_in old actor).world
  pub past : (world_of old).history ≡ old.history → (world_of now).history ≡ now.history
  pub bounded : length now.history ≤ length old.history + 1

-- the world is that after these actors' turns; the history has those turns that got a reply
pub record HasPlayed (program : Program) (actors : List ℕ) (seen : Seen) : Type 0 where
  pub program_is : seen.setting.program ≡ program
  pub world : world_of seen ≡ system_run program actors
  pub past : (world_of seen).history ≡ seen.history
  pub bounded : length seen.history ≤ length actors
