-- Two runs: states that differ only inside a currency, agree outside, and stay so (3.3).
use Rattle.std.specs.Prelude.{◌≡◌, ◌↔◌, ◌⊎◌, ℕ, ◌<◌, Bool, true, false, not, Some, List, [], ◌∷◌, filter, sum_by}
use Rattle.std.specs.List.{flat_map}
use Rattle.lot_machine.specs.declared.trap.Trap.TheVariants.{Yield}
use Rattle.lot_machine.specs.declared.event.Event.{Event}
use Rattle.lot_machine.specs.declared.event.Event.TheVariants.{Command, Draw, Expire, Preempt, Overrun, Trap}
use Rattle.lot_machine.specs.declared.command.Command.TheVariants.{SetTicket}
use Rattle.lot_machine.specs.declared.funding.Edge.TheVariants.{OfTicket}
use Rattle.lot_machine.specs.declared.funding.Node.{Node}
use Rattle.lot_machine.specs.declared.funding.Node.TheVariants.{Thread}
use Rattle.lot_machine.specs.Numbered.{at_number}
use Rattle.lot_machine.specs.Funding.{ends_of}
use Rattle.lot_machine.specs.Equations.{HasEquation}
use Rattle.lot_machine.specs.State.{State, funding_of, ready_threads, thread_on, weight_of}
use Rattle.lot_machine.specs.Step.{step, state_after}
use Rattle.lot_machine.specs.Facts.{is_won_by}
use Rattle.lot_laws.specs.Insulation.{ChangesInside, amount_in, worth_in}

-- The two states differ only inside the currency: only edges and live threads inside differ, the currency is active in
-- both or in neither, and the limits and the records of the threads outside are the same.
pub record DifferInside (s u : State) (c : ℕ) (inside : Node → Bool) : Type 0 where
  pub change : ChangesInside s u c inside
  pub active : (0 < amount_in s c) ↔ (0 < amount_in u c)
  pub limits : u.limits ≡ s.limits
  pub records : (t : ℕ) → inside (Thread t) ≡ false → at_number u.records t ≡ at_number s.records t

-- the sum of the weights of the Ready threads outside
abbrev pub weight_outside : State → (Node → Bool) → ℕ
weight_outside s inside = sum_by (weight_of s) (filter (λ t. not (inside (Thread t))) (ready_threads s.records))

-- the two states agree outside: on the value of each node, on the weight of each thread, and on the sum of the weights
-- of the Ready ones
pub record AgreeOutside (s u : State) (inside : Node → Bool) : Type 0 where
  pub values : (node : Node) → inside node ≡ false → HasEquation (funding_of s) node
      → worth_in u node ≡ worth_in s node
  pub weights : (t : ℕ) → inside (Thread t) ≡ false → HasEquation (funding_of s) (Thread t)
      → weight_of u t ≡ weight_of s t
  pub total : weight_outside u inside ≡ weight_outside s inside

-- ---- pairs of events

-- the event ends the turn of the thread on the processor: its quantum ends, it is preempted, it is late, or it yields
abbrev pub EndsTurn : ℕ → Event → Type 0
EndsTurn p e =
    (e ≡ Expire p) ⊎ ((ticks : ℕ) × (e ≡ Preempt p ticks)) ⊎ ((late : ℕ) × (e ≡ Overrun p late))
    ⊎ ((ran : ℕ) × (e ≡ Trap p ran Yield))

-- both events are draws of one processor, which the same thread outside wins
abbrev pub WinOutside : State → State → Event → Event → (Node → Bool) → Type 0
WinOutside s u e d inside =
    (p : ℕ) × (n : ℕ) × (m : ℕ) × (t : ℕ) × (e ≡ Draw p n) × (d ≡ Draw p m) × (inside (Thread t) ≡ false)
    × (is_won_by t (step s e).reply ≡ true) × (is_won_by t (step u d).reply ≡ true)

-- one event ends the turn of the same thread outside in both
abbrev pub EndOutside : State → State → Event → Event → (Node → Bool) → Type 0
EndOutside s u e d inside =
    (p : ℕ) × (t : ℕ) × (d ≡ e) × EndsTurn p e × (inside (Thread t) ≡ false)
    × (thread_on s.records p ≡ Some t) × (thread_on u.records p ≡ Some t)

-- one command gives in both the same amount to a ticket that leads outside
abbrev pub SetOutside : State → Event → Event → (Node → Bool) → Type 0
SetOutside s e d inside =
    (n : ℕ) × (amount : ℕ) × (from : Node) × (to : Node) × (e ≡ Command (SetTicket n amount)) × (d ≡ e)
    × (ends_of (funding_of s) (OfTicket n) ≡ Some (from, to)) × (inside to ≡ false)

-- one event in both, outside: it ends a turn, or sets the amount of a ticket
abbrev pub SameOutside : State → State → Event → Event → (Node → Bool) → Type 0
SameOutside s u e d inside = EndOutside s u e d inside ⊎ SetOutside s e d inside

-- The two runs differ only inside: each changes only what is inside, or both are one event outside, or draws that the
-- same thread outside wins.
abbrev pub AreAlike : State → State → ℕ → (Node → Bool) → List Event → List Event → Type 0
AreAlike s u c inside left right =
    (DifferInside s (state_after s left) c inside × DifferInside u (state_after u right) c inside)
    ⊎ ((e : Event) × (d : Event) × (left ≡ e ∷ []) × (right ≡ d ∷ [])
    × (WinOutside s u e d inside ⊎ SameOutside s u e d inside))

-- so do these pairs of runs, each from where the ones before it end
abbrev pub AllAlike : State → State → ℕ → (Node → Bool) → List (List Event × List Event) → Type 0
AllAlike s u c inside [] = Unit {0}
AllAlike s u c inside (pair ∷ rest) =
    AreAlike s u c inside pair.0 pair.1 × AllAlike (state_after s pair.0) (state_after u pair.1) c inside rest

-- the events of the first runs of the pairs, and those of the second
abbrev pub first_runs : List (List Event × List Event) → List Event
first_runs pairs = flat_map (λ pair. pair.0) pairs

abbrev pub second_runs : List (List Event × List Event) → List Event
second_runs pairs = flat_map (λ pair. pair.1) pairs
