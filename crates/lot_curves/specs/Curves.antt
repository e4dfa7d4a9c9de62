-- Each thread's ticks or draws at each sample, or the ticks below each currency.
use Rattle.std.specs.Prelude.{ℕ, ◌+◌, ◌*◌, ◌/◌, ◌==◌, min, max, Option, Some, None, List, [], ◌∷◌, ◌++◌, filter, map, unwrap_or, if◌then◌else◌}
use Rattle.std.specs.Fmt.{decimal}
use Rattle.std.specs.List.{range_with_len}
use Rattle.lot_machine.specs.Commands.{is_no_name}
use Rattle.lot_machine.specs.Numbered.{numbers}
use Rattle.lot_machine.specs.Rows.{currency_name, thread_name}
use Rattle.lot_machine.specs.State.{State, opening}
use Rattle.lot_simulation.specs.Timed.{TimedTurn, timed_schedule, timed_turns}
use Rattle.lot_simulation.specs.Below.{currency_numbers}
use Rattle.lot_simulation.specs.World.{Program, World, system_run}
use Rattle.lot_curves.specs.declared.by.By.{By}
use Rattle.lot_curves.specs.declared.by.By.TheVariants as by
use Rattle.lot_curves.specs.declared.stretch.Measure.{Measure}
use Rattle.lot_curves.specs.declared.stretch.Stretch.{Stretch}
use Rattle.lot_curves.specs.OwnTimes.{EndedTurn, own_turns}
use Rattle.lot_curves.specs.Stretches.{had_at, stretch_of, stretches_of, turn_stretches, whole_of}
use Rattle.lot_curves.specs.Windows.{had_in}

-- The subjects of the columns; their names, one for each number of a thread, or of a currency other than base, in
-- ascending order; and the stretches of the turns. With `reuse` a column counts the turns of all threads that had its
-- number, or of the threads below each currency that had it. The stretches count their ticks from the origin, the tick
-- at which the curves begin. With a window, the curves show at each tick the window that ends there, otherwise all
-- ticks up to it. The times of the console's commands count from tick 0; turns of a schedule have none.
pub record Curves : Type 0 where
  pub by : By
  pub names : List (List ℕ)
  pub stretches : List Stretch
  pub origin : ℕ
  pub window : Option ℕ
  pub commands : List ℕ

-- a thread's name, or its number if it has no name
abbrev pub name_or_number : List ℕ → ℕ → List ℕ
name_or_number name thread = if is_no_name name then decimal thread else name

-- the name of the last thread with this number, or the number itself if that thread was removed or has no name
abbrev pub name_in : State → ℕ → List ℕ
name_in s thread = name_or_number (unwrap_or (thread_name s thread) []) thread

-- the name of the last currency with this number, or the number itself if that currency was removed
abbrev pub currency_name_in : State → ℕ → List ℕ
currency_name_in s c = name_or_number (unwrap_or (currency_name s c) []) c

-- the name of the column with this number
abbrev pub name_by : By → State → ℕ → List ℕ
name_by by.Thread s t = name_in s t
name_by by.Currency s c = currency_name_in s c

-- the numbers given to threads, or to currencies other than base
abbrev pub numbers_by : By → State → List ℕ
numbers_by by.Thread s = numbers s.records
numbers_by by.Currency s = currency_numbers s

-- the columns' names in a state, in ascending order of number
abbrev pub names_by : By → State → List (List ℕ)
names_by what s = map (name_by what s) (numbers_by what s)

-- the stretches of the program's run over this history, each turn at its actor's own time
abbrev pub stretches_made : Program → List ℕ → List Stretch
stretches_made program history = map stretch_of (own_turns program history)

-- the timed turn's end, and its answer
abbrev pub ended_in_time : TimedTurn → EndedTurn
ended_in_time done = record { time = done.time; answer = done.turn.answer }

-- the stretches of the timed program's turns
abbrev pub timed_stretches : Program → List Stretch
timed_stretches program = map (λ done. stretch_of (ended_in_time done)) (timed_turns program)

-- the stretches by currency of these turns, the first of which was made in this state
abbrev pub currency_stretches_from : State → List TimedTurn → List Stretch
currency_stretches_from s [] = []
currency_stretches_from s (done ∷ others) =
    turn_stretches by.Currency s (ended_in_time done) ++ currency_stretches_from done.turn.world.state others

-- the stretches by currency of the timed program's turns
abbrev pub currency_stretches : Program → List Stretch
currency_stretches program = currency_stretches_from (opening program.limits) (timed_turns program)

-- the stretches of the timed program's turns
abbrev pub timed_stretches_by : By → Program → List Stretch
timed_stretches_by by.Thread program = timed_stretches program
timed_stretches_by by.Currency program = currency_stretches program

-- the times at which the console makes the timed program's commands
abbrev pub command_times : Program → List ℕ
command_times program = map (λ done. done.time) (filter (λ done. done.actor == 0) (timed_turns program))

-- The curves in a world, with the stretches of the program's run with its history. A column has the name of the last
-- thread with its number, and the stretches of all of them.
abbrev pub curves_in : Program → World → Curves
curves_in program w = record {
  by = by.Thread;
  names = names_by by.Thread w.state;
  stretches = stretches_made program w.history;
  origin = 0;
  window = None;
  commands = [];
}

-- the curves of the program's schedule
abbrev pub scheduled_curves : Program → Curves
scheduled_curves program = curves_in program (system_run program program.schedule)

-- the curves of the timed program's turns
abbrev pub timed_curves_by : By → Program → Curves
timed_curves_by what program = record {
  by = what;
  names = names_by what (system_run program (timed_schedule program)).state;
  stretches = timed_stretches_by what program;
  origin = 0;
  window = None;
  commands = command_times program;
}

-- The curves of the program: those of its timed turns if it has a duration, and otherwise those of its schedule, which
-- are always by thread.
abbrev pub curves_by : By → Program → Curves
curves_by what program = choose program.duration
  where
    choose : Option ℕ → Curves
    choose None = scheduled_curves program
    choose (Some ticks) = timed_curves_by what program

-- the curves of the program by thread
abbrev pub curves_of : Program → Curves
curves_of program = curves_by by.Thread program

-- the ticks or draws up to this tick of the threads that had this number: of one thread, unless the kernel has `reuse`
abbrev pub share_at : Measure → Curves → ℕ → ℕ → ℕ
share_at measure curves tick thread = had_at measure tick (stretches_of thread curves.stretches)

-- the curves with this window, or unchanged without one
abbrev pub windowed : Option ℕ → Curves → Curves
windowed None curves = curves
windowed (Some window) curves = record curves { window = Some window }

-- the ticks or draws that the curves show at this tick, of the threads that had this number
abbrev pub shown_at : Measure → Curves → ℕ → ℕ → ℕ
shown_at measure curves tick thread = had_in measure curves.window tick (stretches_of thread curves.stretches)

-- each column's ticks or draws at this tick, in ascending order of number
abbrev pub row_at : Measure → Curves → ℕ → List ℕ
row_at measure curves tick = map (shown_at measure curves tick) (numbers curves.names)

-- the ticks or draws of all turns at this tick
abbrev pub total_at : Measure → Curves → ℕ → ℕ
total_at measure curves tick = had_in measure curves.window tick (whole_of curves.by curves.stretches)

-- ---- samples

-- the number of samples after tick 0: one for each tick up to the last, but at most 200
abbrev pub sample_count : ℕ → ℕ
sample_count last = min 200 last

-- the tick of a sample; samples are equally spaced from tick 0 to the last tick
abbrev pub sample_tick : ℕ → ℕ → ℕ
sample_tick last sample = sample * last / max 1 (sample_count last)

-- the ticks of all samples, tick 0 first
abbrev pub sample_ticks : ℕ → List ℕ
sample_ticks last = map (sample_tick last) (range_with_len 0 (sample_count last + 1))
