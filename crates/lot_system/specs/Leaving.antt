-- The warnings of a run.
use Rattle.std.specs.Prelude.{ℕ, ◌==◌, Bool, false, ◌&&◌, Option, None, Some, is_some, List, length, if◌then◌else◌}
use Rattle.std.specs.List.{list_any}
use Rattle.lot_machine.specs.declared.reply.Reply.{Reply}
use Rattle.lot_machine.specs.declared.reply.Reply.TheVariants as replies
use Rattle.lot_simulation.specs.declared.timed.EarlyEnd.{EarlyEnd}
use Rattle.lot_simulation.specs.Timed.{is_stopped, last_moment}
use Rattle.lot_simulation.specs.Seeded.{with_seed}
use Rattle.lot_simulation.specs.TimedReport.{early_end}
use Rattle.lot_simulation.specs.World.{Program}
use Rattle.lot_engine.specs.Seen.{Seen}
use Rattle.lot_playback.specs.declared.playback.Order.{Order}
use Rattle.lot_playback.specs.declared.playback.Order.TheVariants.{Scheduled, InTime}
use Rattle.lot_playback.specs.InTime.{moment_in}
use Rattle.lot_simulation.specs.declared.warnings.Warnings.{Warnings}
use Rattle.lot_simulation.specs.Kept.{kept_with, one_more}

-- the warnings after a command with this reply: it is counted, and recorded with its index if refused
abbrev pub command_noted : Warnings → Reply → Warnings
command_noted warnings (replies.Refused refusal) = record warnings { made = one_more warnings.made; refused = kept_with warnings.refused (record { place = warnings.made; refusal = refusal }) }
command_noted warnings other = record warnings { made = one_more warnings.made }

-- the warnings after the actor's turn with this reply; a processor's turn adds none
abbrev pub noted : Warnings → ℕ → Reply → Warnings
noted warnings actor reply = if actor == 0 then command_noted warnings reply else warnings

-- whether a refusal ends the play of the program, as it can if the program is timed and strict
abbrev pub ends_refused : Program → Bool
ends_refused program = is_some program.duration && is_stopped program (last_moment program)

-- whether a refusal ends the play of the program with one of these seeds
abbrev pub any_ends_refused : Program → List ℕ → Bool
any_ends_refused program seeds = list_any (λ seed. ends_refused (with_seed (Some seed) program)) seeds

-- the early end of a play that has come to this position; a schedule has none
abbrev pub early_in : Program → Seen → Order → Option EarlyEnd
early_in program seen (Scheduled place) = None
early_in program seen (InTime timekeeper) = early_end program (moment_in seen timekeeper) (length seen.history)

-- whether a refusal ended a play that has come to this position; it ends none with a schedule
abbrev pub stopped_in : Program → Seen → Order → Bool
stopped_in program seen (Scheduled place) = false
stopped_in program seen (InTime timekeeper) = is_stopped program (moment_in seen timekeeper)
