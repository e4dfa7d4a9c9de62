-- The number of a state's threads after an event, their names and scripts, and its limits.
use Rattle.lot_machine.proofs.Common.{Action, Command, Event, List, None, Option, Record, Some, State, TrapRefusal, arith, at_number, change_each, change_record, checked_effect, command_step, ended, killed, length, length-set, processor_of, refl, released, released_by, step, trap_effect, ℕ, [], ◌-◌, ◌∙◌, ◌∷◌, ◌≡◌}
use Rattle.lot_machine.specs.declared.event.Event.TheVariants as event
use Rattle.lot_machine.proofs.StepChanges.{HasSizesOf, HasGrownFrom, IsConsole, Work, kept, change-grown, change-sizes, change-tickets, checked-leads, by_event, step-leads}

-- a change of a thread's record
pub change-length : (change : Record → Record) (records : List Record) (t : ℕ)
    → length (change_record change records t) ≡ length records
change-length change records t = at (at_number records t) refl
  where
    at : (o : Option Record) → at_number records t ≡ o → length (change_record change records t) ≡ length records
    at None is = rw is refl
    at (Some r) is = rw is (length-set records (t - 1) (change r))

-- a change of each of these threads' records
pub each-length : (change : Record → Record) (records : List Record) (threads : List ℕ)
    → length (change_each change records threads) ≡ length records
each-length change records [] = refl
each-length change records (t ∷ ts) = each-length change (change_record change records t) ts
    ∙ change-length change records t

-- a kill
pub killed-length : (s : State) (t : ℕ) → length (killed s t).records ≡ length s.records
killed-length s t = change-length ended (change_each released s.records (released_by s t)) t
    ∙ each-length released s.records (released_by s t)

-- a trap's work, whether it is refused or not
pub checked-sizes : (s : State) (t : ℕ) (action : Action) (o : Option TrapRefusal)
    → HasSizesOf s (checked_effect s o (trap_effect s t action)).state
checked-sizes s t action o =
    kept (HasSizesOf s) (change-sizes Work s (λ e. cc)) (checked-leads s t action o).0 (refl, refl, refl)

-- an event of a processor is not the console's
not-console : (s : State) (e : Event) (q : ℕ) → processor_of e ≡ Some q → ¬ IsConsole (by_event s e)
not-console s (event.Command command) q on is = cc
not-console s (event.Draw p d) q on is = cc
not-console s (event.Expire p) q on is = cc
not-console s (event.Trap p ran action) q on is = cc
not-console s (event.Preempt p ticks) q on is = cc
not-console s (event.Overrun p ticks) q on is = cc
not-console s (event.Wake t) q on is = cc

-- an event that isn't the console's makes no thread, and leaves the limits
pub other-sizes : (s : State) (e : Event) → ¬ IsConsole (by_event s e) → HasSizesOf s (step s e).state
other-sizes s e other = kept (HasSizesOf s) (change-sizes (by_event s e) s other) (step-leads s e) (refl, refl, refl)

-- and the tickets
pub other-tickets : (s : State) (e : Event) → ¬ IsConsole (by_event s e) → (step s e).state.tickets ≡ s.tickets
other-tickets s e other =
    kept (λ a. a.tickets ≡ s.tickets) (change-tickets (by_event s e) s other) (step-leads s e) refl

pub step-sizes : (s : State) (e : Event) (q : ℕ) → processor_of e ≡ Some q → HasSizesOf s (step s e).state
step-sizes s e q on = other-sizes s e (not-console s e q on)

-- any event leaves the limits, and a thread that it makes has a record
pub step-grown : (s : State) (e : Event) → HasGrownFrom s (step s e).state
step-grown s e =
    kept (HasGrownFrom s) (change-grown (by_event s e) s) (step-leads s e) (refl, (0, omega arith, omega arith))

pub command-grown : (s : State) (c : Command) → HasGrownFrom s (command_step s c).state
command-grown s c = step-grown s (event.Command c)

pub step-limits : (s : State) (e : Event) → (step s e).state.limits ≡ s.limits
step-limits s e = (step-grown s e).0
