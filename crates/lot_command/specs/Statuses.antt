-- Exit statuses.
use Rattle.std.specs.Prelude.{◌≡◌, ◌⊎◌, ℕ, Bool, ◌||◌, Option, Some, None, List, if◌then◌else◌}
use Rattle.lot_io.specs.Reading.{HasRead}
use Rattle.lot_simulation.specs.Grammar.{program_in}
use Rattle.lot_system.specs.Played.{came_of}
use Rattle.lot_system.specs.declared.inputs.Played.{Played}
use Rattle.lot_system.specs.declared.inputs.Played.TheVariants as played
use Rattle.lot_command.specs.declared.exit_status.ExitStatus.{ExitStatus}
use Rattle.lot_command.specs.declared.exit_status.ExitStatus.TheVariants as status
use Rattle.lot_command.specs.declared.command_line.request.View.{View}
use Rattle.lot_command.specs.Views.{input_ends_refused}

-- the number of a status
abbrev pub code_of : ExitStatus → ℕ
code_of status.Done = 0
code_of status.Refused = 1
code_of status.CommandLine = 2
code_of status.Failed = 3

-- the status after a request, given the outcome of its input, if the request didn't fail, and whether a refusal ended
-- its play
abbrev pub status_of : Option Played → Bool → ExitStatus
status_of (Some played.Done) stopped = if stopped then status.Refused else status.Done
status_of (Some played.Refused) stopped = status.Refused
status_of None stopped = status.Failed

-- the status that this view of the input in these bytes calls for, with this seed, if one is given
abbrev pub status_of_input : View → Option ℕ → List ℕ → ExitStatus
status_of_input view seed bytes = status_of (Some (came_of (program_in bytes))) (input_ends_refused view seed bytes)

-- The outcome is that of the bytes that were read. If a refusal ends their play in this view, the diagnostics record
-- it.
pub record HasCome (view : View) (seed : Option ℕ) (left rest : Option (List ℕ)) (before after : Bool) (came : Played) : Type 0 where
  pub bytes : List ℕ
  pub read : HasRead left rest bytes
  pub outcome : came ≡ came_of (program_in bytes)
  pub stopped : after ≡ (before || input_ends_refused view seed bytes)

-- The request failed, or the status is the one that this view calls for of the bytes that were read.
abbrev pub IsStatusFor : View → Option ℕ → Option (List ℕ) → ExitStatus → Type 0
IsStatusFor view seed left result =
    (result ≡ status.Failed) ⊎ ((bytes : List ℕ) × (rest : Option (List ℕ)) × HasRead left rest bytes × (result ≡ status_of_input view seed bytes))
