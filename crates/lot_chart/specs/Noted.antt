-- The stretches of a program's turns.
use Rattle.std.specs.Prelude.{◌≡◌, ⊤, ℕ, ◌+◌, ◌*◌, ◌^◌, ◌<◌, ◌≤◌, ◌==◌, Bool, true, false, length, Option, Some, None, List, [], ◌∷◌, ◌++◌, map, if◌then◌else◌}
use Rattle.std.specs.List.{flat_map}
use Rattle.lot_simulation.specs.Report.{ActorTurn, ticks_in, total_of, turns_made, turns_of}
use Rattle.lot_simulation.specs.World.{Program, opening_world}
use Rattle.lot_machine.specs.declared.reply.Reply.{Reply}
use Rattle.lot_machine.specs.declared.reply.Reply.TheVariants as reply
use Rattle.lot_machine.specs.State.{State, thread_on}
use Rattle.lot_curves.specs.declared.by.By.{By}
use Rattle.lot_curves.specs.declared.by.By.TheVariants.{Thread, Currency}
use Rattle.lot_curves.specs.declared.stretch.Stretch.{Stretch}
use Rattle.lot_curves.specs.Curves.{Curves, names_by}
use Rattle.lot_curves.specs.OwnTimes.{EndedTurn}
use Rattle.lot_curves.specs.Stretches.{last_end, turn_stretches}
use Rattle.lot_graph.specs.Found.{FoundNodes}
use Rattle.lot_engine.specs.Searching.{HasLayoutFor, HasThoseAbove}
use Rattle.lot_engine.specs.Seen.{Seen}
use Rattle.lot_playback.specs.Turns.{MadeTurn, counted_turn, counted_turns, world_after_turns}

-- a counted turn after these turns, which include it: it ends at the sum of its actor's ticks
abbrev pub own_end : List ActorTurn → ActorTurn → EndedTurn
own_end turns turn = record { time = total_of ticks_in (turns_of turn.actor turns); answer = turn.answer }

-- a turn after these turns: it ends at this time, or, without one, at its actor's own time; none if no command remained
abbrev pub ended_at : Option ℕ → List MadeTurn → MadeTurn → List EndedTurn
ended_at (Some time) before made = record { time = time; answer = made.turn.answer } ∷ []
ended_at None before made = map (own_end (counted_turns (before ++ made ∷ []))) (counted_turn made.actor made.turn.answer)

-- the stretches of a turn after these turns, at its own time if it has one
abbrev pub stretches_of_turn : By → List MadeTurn → MadeTurn → List Stretch
stretches_of_turn by before made = flat_map (turn_stretches by made.before.state) (ended_at made.time before made)

-- the stretches of these turns, which come after the earlier ones
abbrev pub stretches_in : By → List MadeTurn → List MadeTurn → List Stretch
stretches_in by before [] = []
stretches_in by before (made ∷ turns) = stretches_of_turn by before made ++ stretches_in by (before ++ made ∷ []) turns

-- the time of a turn of this actor, if it has one and the actor is the console
abbrev pub command_time : Option ℕ → ℕ → List ℕ
command_time None actor = []
command_time (Some time) actor = if actor == 0 then time ∷ [] else []

-- the times of the commands among these turns
abbrev pub commands_in : List MadeTurn → List ℕ
commands_in turns = flat_map (λ made. command_time made.time made.actor) turns

-- the curves of these turns of the program
abbrev pub curves_after : By → Program → List MadeTurn → Curves
curves_after by program turns = record {
  by = by;
  names = names_by by (world_after_turns (opening_world program) turns).state;
  stretches = stretches_in by [] turns;
  origin = 0;
  window = None;
  commands = commands_in turns;
}

-- the time at which this actor's last turn in a system ended: this time, or, without one, the actor's own time
abbrev pub end_in : Seen → Option ℕ → ℕ → ℕ
end_in seen (Some time) actor = time
end_in seen None actor = total_of ticks_in (turns_of actor (turns_made seen.setting.program seen.history))

-- ---- while the turns are gathered

-- the stretches and times noted are those of these turns, and the search has room for the program's graphs
pub record HasNoted (by : By) (program : Program) (turns : List MadeTurn) (stretches : List Stretch) (commands : List ℕ) (above : FoundNodes) : Type 0 where
  pub room : HasLayoutFor program above
  pub stretches_are : stretches ≡ stretches_in by [] turns
  pub few : length stretches < 2 ^ 32
  pub early : last_end stretches ≤ (length turns + 1) * 2 ^ 32
  pub commands_are : commands ≡ commands_in turns

-- whether the reply says that a thread ran
abbrev pub has_run : Reply → Bool
has_run (reply.Expired t ticks) = true
has_run (reply.Trapped t ticks came ends) = true
has_run other = false

-- Before this actor's turn this many currency numbers were given, and the search has found those of the currencies
-- above the thread on the actor's processor.
pub record HasLooked (s : State) (actor : ℕ) (above : FoundNodes) (count : ℕ) : Type 0 where
  pub given : count ≡ length s.currencies
  pub within : count ≤ above.layout.currencies + 1
  pub found : (t : ℕ) → 0 < actor → thread_on s.records actor ≡ Some t → HasThoseAbove s t above

-- by currency the search was made; by thread there is none
abbrev pub HasSearched : By → State → ℕ → FoundNodes → ℕ → Type 0
HasSearched Thread s actor above count = ⊤
HasSearched Currency s actor above count = HasLooked s actor above count
