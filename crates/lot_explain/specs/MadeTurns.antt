-- The output of `explain` for a program's turns.
use Rattle.std.specs.Prelude.{◌≡◌, ℕ, List}
use Rattle.std.specs.List.{flat_map}
use Rattle.lot_machine.specs.declared.event.Event.{Event}
use Rattle.lot_machine.specs.declared.reply.Reply.{Reply}
use Rattle.lot_simulation.specs.World.{Program, World, system_turn}
use Rattle.lot_simulation.specs.World.TurnAnswer.{Answered}
use Rattle.lot_engine.specs.Seen.{Seen, world_of}
use Rattle.lot_playback.specs.declared.turn.Turn.{Turn}
use Rattle.lot_playback.specs.Stages.{Reports}
use Rattle.lot_system.specs.Texts.{style_at}
use Rattle.lot_playback.specs.Turns.{MadeTurn}
use Rattle.lot_explain.specs.declared.detail.Detail.{Detail}
use Rattle.lot_explain.specs.Explained.{explained_text}
use Rattle.lot_explain.specs.Gathering.{Gathered}
use Rattle.lot_explain.specs.Lots.{loans_of, lots_of}

-- a turn's explanation, and then its lines
abbrev pub explained_made : Detail → MadeTurn → List ℕ
explained_made detail made = explained_text detail (style_at made.time) made.actor made.before made.turn

-- the explained lines of these turns
abbrev pub explained_turns : Detail → List MadeTurn → List ℕ
explained_turns detail turns = flat_map (explained_made detail) turns

-- the gathered lots and loans are those of the lottery that the actor's turn in this world may hold
abbrev pub HasLots : Program → World → ℕ → Gathered → Type 0
HasLots program w actor gathered = (event : Event) (reply : Reply) → (system_turn program w actor).answer ≡ Answered event reply
    → (gathered.lots ≡ lots_of w.state event) × (gathered.loans ≡ loans_of w.state event)

-- the system has made this turn, the stored turn reports it, and its lottery's lots and loans are gathered
pub record IsExplained (seen : Seen) (turn : Turn) (lots : Gathered) (made : MadeTurn) : Type 0 where
  pub turn_is : made.turn ≡ system_turn seen.setting.program made.before made.actor
  pub reports : Reports turn made
  pub world : world_of seen ≡ made.turn.world
  pub gathered : HasLots seen.setting.program made.before made.actor lots
