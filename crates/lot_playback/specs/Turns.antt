-- The turns of a program: those of its schedule, or timed ones.
use Rattle.std.specs.Prelude.{ℕ, Option, Some, None, List, [], ◌∷◌}
use Rattle.std.specs.List.{flat_map}
use Rattle.lot_simulation.specs.Report.{ActorTurn}
use Rattle.lot_simulation.specs.Timed.{TimedTurn, timed_turns}
use Rattle.lot_simulation.specs.World.{Program, World, TurnAnswer, TurnMade, opening_world, system_turn}
use Rattle.lot_simulation.specs.World.TurnAnswer.{Answered, Ended}

-- a turn: its time if the program is timed, its actor, the world before it, and its result
pub record MadeTurn : Type 0 where
  pub time : Option ℕ
  pub actor : ℕ
  pub before : World
  pub turn : TurnMade

-- ---- turns of a schedule

-- the actor's turn in this world
abbrev pub scheduled_turn : Program → World → ℕ → MadeTurn
scheduled_turn program w actor = record { time = None; actor = actor; before = w; turn = system_turn program w actor }

-- the turns of these actors, in order, from this world on
abbrev pub scheduled_turns : Program → World → List ℕ → List MadeTurn
scheduled_turns program w [] = []
scheduled_turns program w (actor ∷ actors) = scheduled_turn program w actor ∷ scheduled_turns program (system_turn program w actor).world actors

-- ---- timed turns

-- the timed turn, made in this world
abbrev pub turn_in_time : World → TimedTurn → MadeTurn
turn_in_time w done = record { time = Some done.time; actor = done.actor; before = w; turn = done.turn }

-- these timed turns in order, the first of them made in this world
abbrev pub turns_in_time : World → List TimedTurn → List MadeTurn
turns_in_time w [] = []
turns_in_time w (done ∷ others) = turn_in_time w done ∷ turns_in_time done.turn.world others

-- ---- the program's turns

-- timed turns if the program has a duration, otherwise those of its schedule
abbrev pub turns_by : Program → Option ℕ → List MadeTurn
turns_by program None = scheduled_turns program (opening_world program) program.schedule
turns_by program (Some duration) = turns_in_time (opening_world program) (timed_turns program)

-- the program's turns
abbrev pub program_turns : Program → List MadeTurn
program_turns program = turns_by program program.duration

-- the world after these turns, the first of which was made in this one
abbrev pub world_after_turns : World → List MadeTurn → World
world_after_turns w [] = w
world_after_turns w (made ∷ others) = world_after_turns made.turn.world others

-- an actor's turn as a report counts it, or none if no command remained
abbrev pub counted_turn : ℕ → TurnAnswer → List ActorTurn
counted_turn actor (Answered e r) = record { actor = actor; answer = Answered e r } ∷ []
counted_turn actor Ended = []

-- these turns as a report counts them
abbrev pub counted_turns : List MadeTurn → List ActorTurn
counted_turns turns = flat_map (λ made. counted_turn made.actor made.turn.answer) turns
