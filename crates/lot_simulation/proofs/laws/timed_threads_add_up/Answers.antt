use Rattle.lot_simulation.proofs.Lemmas.{Program, Record, TimedTurn, World, ap, arith, length, length-map, opening_moment, quanta-add_up, quanta-within, quanta_in, room-small, sum_by, sym, ticks-add_up, ticks-within, ticks_in, timed-made, timed-world, timed_room, timed_schedule, timed_turns, total_of, turns-few, ◌<◌, ◌^◌, ◌∙◌}
use Rattle.lot_simulation.proofs.laws.timed_threads_add_up.Goals as goal

short : (program : Program) → length (timed_schedule program) < 2 ^ 32
short program = omega (arith, length-map (timed_turns program) (λ (done : TimedTurn). done.actor), turns-few program timed_room (opening_moment program), room-small)

pub returns-clause-quanta : goal.returns-clause-quanta
returns-clause-quanta c program bounds once =
    ap (λ (w : World). sum_by (λ (r : Record). r.quanta) w.state.records) (timed-world program)
    ∙ quanta-add_up program (timed_schedule program) bounds (short program) once
    ∙ sym (ap (total_of quanta_in) (timed-made program))

pub returns-clause-ticks : goal.returns-clause-ticks
returns-clause-ticks c program bounds once =
    ap (λ (w : World). sum_by (λ (r : Record). r.ticks) w.state.records) (timed-world program)
    ∙ ticks-add_up program (timed_schedule program) bounds (short program) once
    ∙ sym (ap (total_of ticks_in) (timed-made program))

pub returns-clause-quanta_within : goal.returns-clause-quanta_within
returns-clause-quanta_within c program bounds =
    omega (arith, ap (λ (w : World). sum_by (λ (r : Record). r.quanta) w.state.records) (timed-world program), quanta-within program (timed_schedule program) bounds (short program), ap (total_of quanta_in) (timed-made program))

pub returns-clause-ticks_within : goal.returns-clause-ticks_within
returns-clause-ticks_within c program bounds =
    omega (arith, ap (λ (w : World). sum_by (λ (r : Record). r.ticks) w.state.records) (timed-world program), ticks-within program (timed_schedule program) bounds (short program), ap (total_of ticks_in) (timed-made program))
