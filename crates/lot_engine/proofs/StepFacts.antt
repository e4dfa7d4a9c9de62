-- An event of a processor leaves the names and scripts of threads, their number, and the sizes.
use Rattle.lot_engine.proofs.Common.{Action, Event, KeepsThreads, Some, State, processor_of, refl, step, step-sizes, ℕ, ◌≡◌}
use Rattle.lot_machine.specs.declared.event.Event.TheVariants as event

processor-same : (s : State) (e : Event) (p : ℕ) → processor_of e ≡ Some p → KeepsThreads s (step s e).state
processor-same s e p on = let sizes = step-sizes s e p on in
    record { threads = sizes.2; records = sizes.1; limits = sizes.0 }

pub draws-same : (s : State) (p d : ℕ) → KeepsThreads s (step s (event.Draw p d)).state
draws-same s p d = processor-same s (event.Draw p d) p refl

pub expires-same : (s : State) (p : ℕ) → KeepsThreads s (step s (event.Expire p)).state
expires-same s p = processor-same s (event.Expire p) p refl

pub traps-same : (s : State) (p ran : ℕ) (action : Action) → KeepsThreads s (step s (event.Trap p ran action)).state
traps-same s p ran action = processor-same s (event.Trap p ran action) p refl
