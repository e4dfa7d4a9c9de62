-- What a currency alone funds: its threads' values, their weights, and the draws that they win (3.2, 3.3).
use Rattle.std.specs.Prelude.{◌≡◌, ℕ, ◌*◌, min, Bool, true, false, ◌&&◌, Option, Some, None, List, filter, count_by, sum_by, option_and_then, unwrap_or}
use Rattle.std.specs.List.{range_with_len}
use Rattle.lot_machine.specs.declared.funding.Node.{Node}
use Rattle.lot_machine.specs.declared.funding.Node.TheVariants.{Currency, Thread}
use Rattle.lot_machine.specs.declared.record.Status.TheVariants.{Ready}
use Rattle.lot_machine.specs.declared.reply.Reply.{Reply}
use Rattle.lot_machine.specs.declared.reply.Reply.TheVariants.{Winner}
use Rattle.lot_machine.specs.Numbered.{at_number, numbers}
use Rattle.lot_machine.specs.Funding.{Funding, IsEdge}
use Rattle.lot_machine.specs.Lends.{is_live}
use Rattle.lot_machine.specs.State.{State, live_of, ready_threads, status_of, value_of, weight_of}
use Rattle.lot_machine.specs.Step.{draw}
use Rattle.lot_machine.specs.Facts.{total_weight}
use Rattle.lot_laws.specs.Insulation.{Encloses}

-- the currency alone funds these nodes: it encloses them, and base leads to none of them
pub record EnclosesAlone (f : Funding) (c : ℕ) (inside : Node → Bool) : Type 0 where
  pub enclosed : Encloses f c inside
  pub no_base : (to : Node) → IsEdge f (Currency 0) to → inside to ≡ false

-- the sum of the values of the live threads inside
abbrev pub value_inside : State → (Node → Bool) → ℕ
value_inside s inside =
    sum_by (value_of s) (filter (λ t. is_live (live_of s) t && inside (Thread t)) (numbers s.records))

-- ---- draws

-- the Ready threads inside, in ascending order
abbrev pub ready_inside : State → (Node → Bool) → List ℕ
ready_inside s inside = filter (λ t. inside (Thread t)) (ready_threads s.records)

-- the sum of their weights
abbrev pub weight_inside : State → (Node → Bool) → ℕ
weight_inside s inside = sum_by (weight_of s) (ready_inside s inside)

-- the thread's compensation: the ticks that it used (4.5)
abbrev pub compensation_in : State → ℕ → Option ℕ
compensation_in s t = option_and_then (λ r. r.compensation) (at_number s.records t)

-- no Ready thread inside is compensated
abbrev pub NoneCompensated : State → (Node → Bool) → Type 0
NoneCompensated s inside =
    (t : ℕ) → inside (Thread t) ≡ true → status_of s.records t ≡ Some Ready → compensation_in s t ≡ None

-- the ticks that the thread's compensation used, but at most a quantum; without compensation a quantum (3.4)
abbrev pub ticks_counted : State → ℕ → ℕ
ticks_counted s t = min (unwrap_or (compensation_in s t) s.limits.quantum) s.limits.quantum

-- the sum of the weights of the Ready threads inside, each times these ticks
abbrev pub weighed_ticks : State → (Node → Bool) → ℕ
weighed_ticks s inside = sum_by (λ t. weight_of s t * ticks_counted s t) (ready_inside s inside)

-- whether the reply names a winner inside
abbrev pub is_won_inside : (Node → Bool) → Reply → Bool
is_won_inside inside (Winner t number total delivered) = inside (Thread t)
is_won_inside inside other = false

-- of the numbers below the total, as many as let a thread inside win the processor's draw
abbrev pub wins_inside : State → ℕ → (Node → Bool) → ℕ
wins_inside s p inside = count_by (λ d. is_won_inside inside (draw s p d).reply) (range_with_len 0 (total_weight s))
