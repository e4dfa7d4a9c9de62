-- The table of the threads that run on processors.
use Rattle.std.specs.Prelude.{◌≡◌, ℕ, Option, Some, None, List}
use Rattle.std.specs.Option.{option_flatten}
use Rattle.lot_machine.specs.declared.record.Record.{Record}
use Rattle.lot_machine.specs.declared.record.Status.{Status}
use Rattle.lot_machine.specs.declared.record.Status.TheVariants.{Running}
use Rattle.lot_machine.specs.Numbered.{at_number, set_number}
use Rattle.lot_machine.specs.State.{status_of}

-- the thread on a processor, if there is one
abbrev pub runner_at : List (Option ℕ) → ℕ → Option ℕ
runner_at runners p = option_flatten (at_number runners p)

-- The table's thread for each processor runs there, and each running thread is in the table at its processor.
pub record AreRunners (records : List Record) (runners : List (Option ℕ)) : Type 0 where
  pub each : (p t : ℕ) → runner_at runners p ≡ Some t → (used : ℕ) × (status_of records t ≡ Some (Running p used))
  pub all : (t p used : ℕ) → status_of records t ≡ Some (Running p used) → runner_at runners p ≡ Some t

-- the table after a thread with this status leaves its processor, if it has one
abbrev pub without_runner : Status → List (Option ℕ) → List (Option ℕ)
without_runner (Running p used) runners = set_number runners p None
without_runner other runners = runners

-- the table after the thread gets this status
abbrev pub with_runner : ℕ → Status → List (Option ℕ) → List (Option ℕ)
with_runner t (Running p used) runners = set_number runners p (Some t)
with_runner t other runners = runners
