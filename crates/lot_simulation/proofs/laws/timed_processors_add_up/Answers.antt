use Rattle.lot_simulation.proofs.Lemmas.{ActorTurn, List, Program, Reply, idles-of_processors, idles_in, quanta-of_processors, quanta_in, range_with_len, subst, sum_by, sym, ticks-of_processors, ticks_in, timed-made, timed_schedule, total_of, turns_of, ℕ, ◌≡◌}
use Rattle.lot_simulation.proofs.laws.timed_processors_add_up.Goals as goal

abbrev AddsUp : Program → (Reply → ℕ) → List ActorTurn → Type 0
AddsUp program count turns =
    sum_by (λ p. total_of count (turns_of p turns)) (range_with_len 1 program.limits.processors) ≡ total_of count turns

pub returns-clause-quanta : goal.returns-clause-quanta
returns-clause-quanta c program each =
    subst (AddsUp program quanta_in) (sym (timed-made program)) (quanta-of_processors program (timed_schedule program))

pub returns-clause-idles : goal.returns-clause-idles
returns-clause-idles c program each =
    subst (AddsUp program idles_in) (sym (timed-made program)) (idles-of_processors program (timed_schedule program))

pub returns-clause-ticks : goal.returns-clause-ticks
returns-clause-ticks c program each =
    subst (AddsUp program ticks_in) (sym (timed-made program)) (ticks-of_processors program (timed_schedule program))
