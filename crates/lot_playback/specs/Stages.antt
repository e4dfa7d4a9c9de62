-- The progress of a play.
use Rattle.std.specs.Prelude.{◌≡◌, ℕ, ◌≤◌, Bool, true, false, None, List, [], ◌∷◌, ◌++◌, drop}
use Rattle.lot_machine.specs.declared.event.Event.{Event}
use Rattle.lot_machine.specs.declared.reply.Reply.{Reply}
use Rattle.lot_simulation.specs.Report.{turns_made}
use Rattle.lot_simulation.specs.World.{Program, TurnAnswer, opening_world, system_turn}
use Rattle.lot_simulation.specs.World.TurnAnswer.{Answered, Ended}
use Rattle.lot_engine.specs.Seen.{Seen, world_of}
use Rattle.lot_playback.specs.declared.turn.NextTurn.{NextTurn}
use Rattle.lot_playback.specs.declared.turn.Turn.{Turn}
use Rattle.lot_playback.specs.Turns.{MadeTurn, counted_turns, program_turns, world_after_turns}

-- the system, and the number of its program's turns made, counting the console's without a command
pub record Stage : Type 0 where
  pub seen : Seen
  pub made : ℕ

-- the turns left
abbrev pub turns_left : Stage → List MadeTurn
turns_left stage = drop stage.made (program_turns stage.seen.setting.program)

-- the actor and the time are those of the turn
pub record IsOf (made : MadeTurn) (next : NextTurn) : Type 0 where
  pub time : next.time ≡ made.time
  pub actor : next.actor ≡ made.actor

-- this turn is next
abbrev pub IsNext : Stage → NextTurn → Type 0
IsNext stage next = (made : MadeTurn) × (others : List MadeTurn) × (turns_left stage ≡ made ∷ others) × IsOf made next

-- the answer to a turn: that no command was left, or its event and reply
abbrev pub answer_in : Bool → Event → Reply → TurnAnswer
answer_in true e r = Ended
answer_in false e r = Answered e r

-- the stored turn reports this turn
pub record Reports (turn : Turn) (made : MadeTurn) : Type 0 where
  pub time : turn.time ≡ made.time
  pub actor : turn.actor ≡ made.actor
  pub answer : made.turn.answer ≡ answer_in turn.has_ended turn.event turn.reply

-- ---- the effect of a turn

-- the system has made these turns of the program
pub record HasMade (program : Program) (turns : List MadeTurn) (seen : Seen) : Type 0 where
  pub program_is : seen.setting.program ≡ program
  pub world : world_of seen ≡ world_after_turns (opening_world program) turns
  pub counted : turns_made program seen.history ≡ counted_turns turns

-- After these turns the system has made this one, and the stored turn reports it. The actor of a turn of a schedule is
-- one of the program's. Only a turn of a schedule can be the console's without a command.
pub record HasJustMade (program : Program) (turns : List MadeTurn) (made : MadeTurn) (turn : Turn) (seen : Seen) : Type 0 where
  pub turn_is : made.turn ≡ system_turn program made.before made.actor
  pub actor : made.time ≡ None → made.actor ≤ program.limits.processors
  pub ended : made.turn.answer ≡ Ended → made.time ≡ None
  pub reports : Reports turn made
  pub has : HasMade program (turns ++ made ∷ []) seen

-- this turn was the next, and has been made
pub record MakesTurn (old new : Stage) (turn : Turn) (made : MadeTurn) : Type 0 where
  pub setting : new.seen.setting ≡ old.seen.setting
  pub left : turns_left old ≡ made ∷ turns_left new
  pub before : made.before ≡ world_of old.seen
  pub just : (turns : List MadeTurn) → HasMade old.seen.setting.program turns old.seen → HasJustMade old.seen.setting.program turns made turn new.seen
