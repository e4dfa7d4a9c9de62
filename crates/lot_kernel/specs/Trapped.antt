-- A trap that has passed the checks of its event.
use Rattle.std.specs.Prelude.{◌≡◌, ℕ, Option, Some, None, List}
use Rattle.lot_machine.specs.Actions.{Action}
use Rattle.lot_machine.specs.declared.record.Record.{Record}
use Rattle.lot_machine.specs.declared.record.Status.TheVariants.{Running}
use Rattle.lot_machine.specs.declared.reply.Outcome.{Outcome}
use Rattle.lot_machine.specs.declared.reply.Outcome.TheVariants.{ServedBy, Received, RepliedThenReceived}
use Rattle.lot_machine.specs.State.{State, status_of}
use Rattle.lot_machine.specs.Commands.{Step}
use Rattle.lot_machine.specs.Step.{Effect, trap_refusal, trap_effect, checked_effect, finish_trap}
use Rattle.lot_kernel.specs.declared.ending.Trap.{Trap}

-- the thread runs on this processor
abbrev pub RunsOn : List Record → ℕ → ℕ → Type 0
RunsOn records t processor = (used : ℕ) × (status_of records t ≡ Some (Running processor used))

-- the thread runs on some processor
abbrev pub IsRunning : List Record → ℕ → Type 0
IsRunning records t = (processor : ℕ) × RunsOn records t processor

-- the effect of the thread's trap: none if it is refused
abbrev pub effect_of : State → ℕ → Action → Effect
effect_of s t action = checked_effect s (trap_refusal s t action) (trap_effect s t action)

-- the step of the trap: its effect, its ticks counted, and its thread staying or leaving
abbrev pub trapped : State → Trap → Action → Step
trapped s trap action = finish_trap s trap.processor.number trap.thread.number trap.ticks trap.used (effect_of s trap.thread.number action)

-- the thread that took a call by this trap with this outcome, if one did
abbrev pub taker : ℕ → Outcome → Option ℕ
taker t (ServedBy server) = Some server
taker t (Received client number) = Some t
taker t (RepliedThenReceived to client number) = Some t
taker t other = None
