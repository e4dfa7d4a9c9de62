-- Each processor still has its own thread after an event.
use Rattle.lot_machine.proofs.Common.{Action, After, Event, List, Record, RunsApart, State, step, trap_effect, ℕ}
use Rattle.lot_machine.proofs.RecordsKept.{RunsAlone, StopsIfLeaves}
use Rattle.lot_machine.proofs.StepChanges.{Work, kept, Apart, change-apart, change-alone, effect-leads, by_event, step-leads}

-- after a trap's work each processor has its own thread, p no other than t, and t leaves it with a status that isn't Running
abbrev pub IsApart : ℕ → ℕ → List Record → After → Type 0
IsApart p t records after = RunsApart records × RunsAlone records p t × StopsIfLeaves after

pub effect-apart : (s : State) (p t u : ℕ) (action : Action) → RunsApart s.records → RunsAlone s.records p t
    → IsApart p t (trap_effect s u action).state.records (trap_effect s u action).after
effect-apart s p t u action runs alone =
    let works = effect-leads s u action in
    (kept Apart (change-apart Work s runs) works.0 runs, kept (λ a. RunsAlone a.records p t) (change-alone s p t) works.0 alone, works.1)

pub step-apart : (s : State) (e : Event) → RunsApart s.records → RunsApart (step s e).state.records
step-apart s e runs = kept Apart (change-apart (by_event s e) s runs) (step-leads s e) runs
