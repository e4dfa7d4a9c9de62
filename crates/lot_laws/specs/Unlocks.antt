-- Unlocks that pass a mutex on: the lottery over its waiters, and what the next owner gets (6.1).
use Rattle.std.specs.Prelude.{◌≡◌, ℕ, ◌==◌, Bool, false, Option, List}
use Rattle.lot_machine.specs.declared.trap.Trap.TheVariants.{Unlock}
use Rattle.lot_machine.specs.declared.event.Event.{Event}
use Rattle.lot_machine.specs.declared.event.Event.TheVariants.{Trap}
use Rattle.lot_machine.specs.declared.reply.Reply.{Reply}
use Rattle.lot_machine.specs.declared.reply.Reply.TheVariants.{Trapped}
use Rattle.lot_machine.specs.declared.reply.Outcome.{Outcome}
use Rattle.lot_machine.specs.declared.reply.Outcome.TheVariants.{Passed}
use Rattle.lot_machine.specs.Mutexes.{mutex_at}
use Rattle.lot_machine.specs.State.{State, funding_of, live_of}
use Rattle.lot_machine.specs.Step.{step}
use Rattle.lot_machine.specs.Value.{mutex_value}

-- the thread's unlock of the mutex passes it on to the next owner
abbrev pub PassesOn : State → Event → ℕ → ℕ → ℕ → Type 0
PassesOn s e m t next =
    (p : ℕ) × (ran : ℕ) × (d : ℕ) × (ticks : ℕ) × (lottery : Option (ℕ × ℕ)) × (ends : Bool)
    × (e ≡ Trap p ran (Unlock m d)) × ((step s e).reply ≡ Trapped t ticks (Passed next lottery) ends)

-- the threads that wait for the mutex, the one that has waited longest first
abbrev pub waiters_of : State → ℕ → List ℕ
waiters_of s m = (mutex_at s.mutexes m).waiters

-- whether the outcome says that the mutex passed to this thread
abbrev pub is_passing_to : ℕ → Outcome → Bool
is_passing_to u (Passed next lottery) = next == u
is_passing_to u other = false

-- whether the reply does
abbrev pub is_passed_to : ℕ → Reply → Bool
is_passed_to u (Trapped t ticks outcome ends) = is_passing_to u outcome
is_passed_to u other = false

-- the value that the mutex passes to its owner: the sum of the values of the threads that wait for it
abbrev pub mutex_worth : State → ℕ → ℕ
mutex_worth s m = mutex_value s.limits.unit (funding_of s) (live_of s) m
