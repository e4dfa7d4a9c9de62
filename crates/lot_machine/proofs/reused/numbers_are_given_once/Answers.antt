use Rattle.lot_machine.proofs.Common.{List, Some, State, ap, cond, false, newborn, next_place, placed, ℕ, [], ◌+◌, ◌≡◌}
use Rattle.lot_machine.proofs.reused.numbers_are_given_once.Goals as goal

-- no place is free
none-free : (s : State) (free : List ℕ) → s.limits.reuse ≡ false → cond {A = List ℕ} s.limits.reuse free [] ≡ []
none-free s free once = ap (λ b. cond {A = List ℕ} b free []) once

pub returns-clause-tickets : goal.returns-clause-tickets
returns-clause-tickets c =
    λ s ticket once. ap (λ free. placed s.tickets free (Some ticket)) (none-free s s.freed.tickets once)

pub returns-clause-currencies : goal.returns-clause-currencies
returns-clause-currencies c =
    λ s name once. ap (λ free. placed s.currencies free (Some name)) (none-free s s.freed.currencies once)

pub returns-clause-threads : goal.returns-clause-threads
returns-clause-threads c = λ s name script once. ap
    (λ free. placed s.threads free (Some (record { name = name; script = script }))) (none-free s s.freed.threads once)

pub returns-clause-records : goal.returns-clause-records
returns-clause-records c =
    λ s name script once. ap (λ free. placed s.records free newborn) (none-free s s.freed.threads once)

pub returns-clause-clients : goal.returns-clause-clients
returns-clause-clients c =
    λ s name script once. ap (λ free. placed s.clients free []) (none-free s s.freed.threads once)

pub returns-clause-next : goal.returns-clause-next
returns-clause-next c = λ s once. (
  ap (λ free. next_place s.tickets free + 1) (none-free s s.freed.tickets once),
  ap (next_place s.currencies) (none-free s s.freed.currencies once),
  ap (λ free. next_place s.threads free + 1) (none-free s s.freed.threads once),
)
