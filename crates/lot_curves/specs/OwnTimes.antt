-- Turns, each at its actor's own time.
use Rattle.std.specs.Prelude.{ℕ, List, [], ◌∷◌, ◌++◌}
use Rattle.lot_simulation.specs.World.{Program, TurnAnswer}
use Rattle.lot_simulation.specs.Report.{ActorTurn, turns_made, turns_of, total_of, ticks_in}

-- the end of a turn, and its answer
pub record EndedTurn : Type 0 where
  pub time : ℕ
  pub answer : TurnAnswer

-- these turns after the earlier ones, each with its end: the sum of its actor's ticks up to it
abbrev pub ended_after : List ActorTurn → List ActorTurn → List EndedTurn
ended_after before [] = []
ended_after before (turn ∷ turns) =
    record { time = total_of ticks_in (turns_of turn.actor (before ++ turn ∷ [])); answer = turn.answer } ∷ ended_after (before ++ turn ∷ []) turns

-- the turns of the program's run over this history, each ending at its actor's own time
abbrev pub own_turns : Program → List ℕ → List EndedTurn
own_turns program history = ended_after [] (turns_made program history)
