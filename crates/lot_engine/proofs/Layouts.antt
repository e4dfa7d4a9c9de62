-- No event changes the number of mutexes, so all states of a program's runs have graphs with one layout.
use Rattle.lot_engine.proofs.Common.{Bool, By, Command, Event, FoundNodes, HasLayoutFor, HasLayoutOf, Keeps, Layout, List, None, Program, PutMutex, Sizes, State, TurnMade, World, actor_event, ap, ap₂, by_event, cond, console_turn, false, holders, kept, length, length-replicate, length-set, next_name, opening_world, processor_turn, resolved, step, step-leads, sym, system_after, system_run, system_turn, true, ℕ, [], ◌-◌, ◌==◌, ◌∙◌, ◌∷◌, ◌≡◌}
use Rattle.lot_machine.specs.declared.event.Event.TheVariants as event

abbrev HasMutexes : ℕ → State → Type 0
HasMutexes count s = length s.mutexes ≡ count

change-mutexes : (by : By) (s : State) (count : ℕ) → Keeps by s (HasMutexes count)
change-mutexes by s count a (PutMutex m mutex) allowed has = length-set a.mutexes (m - 1) mutex ∙ has
change-mutexes by s count a other allowed has = has

step-mutexes : (s : State) (e : Event) (count : ℕ) → HasMutexes count s → HasMutexes count (step s e).state
step-mutexes s e count has = kept (HasMutexes count) (change-mutexes (by_event s e) s count) (step-leads s e) has

module _ (program : Program) where
  console-mutexes : (w : World) (commands : List Command) (count : ℕ) → HasMutexes count w.state
      → HasMutexes count (console_turn program w commands).world.state
  console-mutexes w [] count has = has
  console-mutexes w (c ∷ cs) count has =
      step-mutexes w.state (event.Command (resolved w.tickets (next_name w) c)) count has

  turn-mutexes : (w : World) (actor count : ℕ) → HasMutexes count w.state
      → HasMutexes count (system_turn program w actor).world.state
  turn-mutexes w actor count has = by (actor == 0)
    where
      by : (console : Bool) → HasMutexes count (cond {A = TurnMade} console (console_turn program w w.commands)
          (processor_turn w actor (actor_event program w actor))).world.state
      by true = console-mutexes w w.commands count has
      by false = step-mutexes w.state (actor_event program w actor) count has

  after-mutexes : (w : World) (actors : List ℕ) (count : ℕ) → HasMutexes count w.state
      → HasMutexes count (system_after program w actors).state
  after-mutexes w [] count has = has
  after-mutexes w (actor ∷ actors) count has =
      after-mutexes (system_turn program w actor).world actors count (turn-mutexes w actor count has)

  run-mutexes : (history : List ℕ) → length (system_run program history).state.mutexes ≡ holders program.limits
  run-mutexes history = after-mutexes (opening_world program) history (holders program.limits)
      (length-replicate (holders program.limits) (record { owner = None; waiters = [] }))

  -- the layout of a kernel in the state after a run is the program's
  module _ (history : List ℕ) (s : State) (is : s ≡ (system_run program history).state)
      (limits : s.limits ≡ program.limits) (above : FoundNodes) where
    layout-is : record { tickets = s.limits.tickets; currencies = s.limits.currencies; threads = s.limits.threads; mutexes = length s.mutexes }
        ≡ (let l : Layout = record { tickets = program.limits.tickets; currencies = program.limits.currencies; threads = program.limits.threads; mutexes = holders program.limits } in l)
    layout-is =
        ap₂ (λ (l : Sizes) (m : ℕ). let layout : Layout =
        record { tickets = l.tickets; currencies = l.currencies; threads = l.threads; mutexes = m } in layout) limits
        (ap (λ (x : State). length x.mutexes) is ∙ run-mutexes history)

    pub layout-for : HasLayoutOf s above → HasLayoutFor program above
    layout-for has = has ∙ layout-is

    pub layout-of : HasLayoutFor program above → HasLayoutOf s above
    layout-of has = has ∙ sym layout-is
