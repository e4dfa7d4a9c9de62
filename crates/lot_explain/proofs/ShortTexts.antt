-- The explanation of turns is longer than their lines by at most one line for each turn and each possible thread.
use Rattle.lot_explain.proofs.Common.{All, Bool, Due, HasShortName, IsWithinBounds, List, Lots, Moment, None, Ok, Option, Program, Some, Timed, TimedTurn, Whole, World, all_due, ap, arith, cond, due_first, earliest, end_of, explained_in_time, explained_output, explained_program, explained_schedule, explained_texts, explained_times, false, flat_map, length, length-append, line_bytes, lots_text, ltb-false, min-le_left, moment_after, nat_lt, next-follows, next_due, opening_moment, opening_world, output, played_output, printed_actor, program_in, refl, report, scheduled_output, some-injective, suc, system_run, system_turn, timed_output, timed_report, timed_room, timed_text, timed_turns, true, turn_count, turn_due, turn_text, turn_texts, turns_from, within, zero, ℕ, [], ◌*◌, ◌++◌, ◌+◌, ◌<◌, ◌^◌, ◌∷◌, ◌≡◌, ◌≤◌}
use Rattle.lot_explain.proofs.ReadPrograms.{IsReadProgram, program-read}
use Rattle.lot_explain.proofs.ShortTurns.{IsShort, opening-short, turn-keeps, turn-short}

-- One turn more: its lots are at most so many bytes, and so are those of each of the turns after it.
more-short : (most n : ℕ) (lots turn explained written : List ℕ) → length lots ≤ most → length explained
    ≤ length written + n * most → length ((lots ++ turn) ++ explained) ≤ length (turn ++ written) + suc n * most
more-short most n lots turn explained written few rest =
    omega
    (arith, length-append (lots ++ turn) explained, length-append lots turn, length-append turn written, few, rest)

-- what comes after both
after-short : (more : ℕ) (explained written end : List ℕ) → length explained ≤ length written + more
    → length (explained ++ end) ≤ length (written ++ end) + more
after-short more explained written end few = omega (arith, length-append explained end, length-append written end, few)

-- ---- by a schedule

-- what explains the turns of actors
texts-short : (program : Program) (w : World) (actors : List ℕ) → IsShort program.limits w
    → length (explained_texts Lots program w actors)
    ≤ length (turn_texts program w actors) + length actors * (program.limits.threads * 139)
texts-short program w [] short = omega arith
texts-short program w (actor ∷ actors) short =
    let turn = system_turn program w actor in
    more-short (program.limits.threads * 139) (length actors)
    (lots_text Whole (printed_actor turn.world.state actor) w.state turn.answer) (turn_text Whole actor turn)
    (explained_texts Lots program turn.world actors) (turn_texts program turn.world actors)
    (turn-short Whole program w actor (printed_actor turn.world.state actor)
    (min-le_left actor (turn.world.state.limits.processors + 1)) tt short)
    (texts-short program turn.world actors (turn-keeps program w actor short))

-- and what explains the whole schedule, with the report
pub schedule-short : (program : Program) → IsWithinBounds program.limits → All HasShortName program.commands
    → length (explained_schedule Lots program)
    ≤ length (scheduled_output program) + length program.schedule * (program.limits.threads * 139)
schedule-short program bounds names =
    let first = opening_world program in
    after-short (length program.schedule * (program.limits.threads * 139))
    (explained_texts Lots program first program.schedule) (turn_texts program first program.schedule)
    (report program (system_run program program.schedule).history)
    (texts-short program first program.schedule (opening-short program bounds names))

-- ---- in the order of time

-- a turn that is due is no later than the end
within-end : (end : ℕ) (o : Option Due) (due : Due) → within end o ≡ Some due → due.time ≤ end
within-end end None due e = cc
within-end end (Some x) due e = at (nat_lt end x.time) refl e
  where
    at : (b : Bool) → nat_lt end x.time ≡ b → cond b None (Some x) ≡ Some due → due.time ≤ end
    at true late is = cc
    at false early is = omega (arith, ltb-false end x.time early, ap (λ (d : Due). d.time) (some-injective x due is))

-- turns, the first of which is made in this world, are explained in few bytes more than are written of them
abbrev AreShortTimes : Program → World → List TimedTurn → Type 0
AreShortTimes program w turns = length (explained_times Lots w turns)
    ≤ length (flat_map timed_text turns) + length turns * (program.limits.threads * 183)

-- the turns from a moment on
times-short : (program : Program) → end_of program < 2 ^ 32 → (room : ℕ) (m : Moment) → IsShort program.limits m.world
    → AreShortTimes program m.world (turns_from program room m)
times-short program small zero m short = omega arith
times-short program small (suc room) m short =
    at (λ next. times-short program small room next) (next_due program m) refl
  where
    at : ((next : Moment) → IsShort program.limits next.world
        → AreShortTimes program next.world (turns_from program room next)) → (o : Option Due) → next_due program m ≡ o
        → AreShortTimes program m.world (due_first program m (λ done. turns_from program room (moment_after m done)) o)
    at later None is = omega arith
    at later (Some due) is =
        let done = turn_due program m due in
        let turn = system_turn program m.world due.actor in
        let next = moment_after m done in
        let others = turns_from program room next in
        let time : due.time < 2 ^ 32 = omega
        (arith, within-end (end_of program) (earliest (all_due program m)) due (next-follows program m due is), small) in
        more-short (program.limits.threads * 183) (length others)
        (lots_text (Timed due.time) (printed_actor turn.world.state due.actor) m.world.state turn.answer)
        (turn_text (Timed due.time) due.actor turn) (explained_times Lots turn.world others)
        (flat_map timed_text others) (turn-short (Timed due.time) program m.world due.actor (printed_actor
        turn.world.state due.actor) (min-le_left due.actor (turn.world.state.limits.processors + 1)) time short)
        (later next (turn-keeps program m.world due.actor short))

-- and all turns in the order of time, with the report
pub in_time-short : (program : Program) → IsWithinBounds program.limits → All HasShortName program.commands
    → end_of program < 2 ^ 32
    → length (explained_in_time Lots program)
    ≤ length (timed_output program) + length (timed_turns program) * (program.limits.threads * 183)
in_time-short program bounds names small =
    let turns = timed_turns program in
    after-short (length turns * (program.limits.threads * 183)) (explained_times Lots (opening_world program) turns)
    (flat_map timed_text turns) (timed_report program)
    (times-short program small timed_room (opening_moment program) (opening-short program bounds names))

-- ---- every input

-- a program that is read
program-short : (program : Program) → IsReadProgram program → (duration : Option ℕ)
    → length (explained_program Lots program duration) ≤ length (played_output program duration)
    + turn_count program duration * (program.limits.threads * line_bytes duration)
program-short program is None = schedule-short program is.bounds is.names
program-short program is (Some duration) = in_time-short program is.bounds is.names is.time

-- and the bytes that it is read from
pub output-short : (bytes : List ℕ) (program : Program) → program_in bytes ≡ Ok program
    → length (explained_output Lots bytes) ≤ length (output bytes) + turn_count program program.duration
    * (program.limits.threads * line_bytes program.duration)
output-short bytes program is = rw is (program-short program (program-read bytes program is) program.duration)
