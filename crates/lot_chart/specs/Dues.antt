-- The dues of threads or currencies over time: their shares, by value, of the time during which live threads have
-- value, or during which base tickets are active.
use Rattle.std.specs.Prelude.{ℕ, ◌+◌, ◌-◌, ◌*◌, ◌^◌, ◌==◌, nat_le, min, max, Option, Some, None, List, [], ◌∷◌, fold, sum_by, if◌then◌else◌}
use Rattle.std.specs.Int.{div_ceil}
use Rattle.lot_machine.specs.Facts.{base_value, live_value}
use Rattle.lot_machine.specs.State.{State, opening, value_of}
use Rattle.lot_simulation.specs.Timed.{TimedTurn, timed_turns}
use Rattle.lot_simulation.specs.TimedReport.{base_ticks, currency_part, due_part, live_part, live_ticks, tick_parts}
use Rattle.lot_simulation.specs.Below.{worth_of}
use Rattle.lot_simulation.specs.World.{Program}
use Rattle.lot_curves.specs.declared.by.By.{By}
use Rattle.lot_curves.specs.declared.by.By.TheVariants.{Thread, Currency}
use Rattle.lot_curves.specs.declared.stretch.Measure.TheVariants.{Ticks}
use Rattle.lot_curves.specs.Curves.{Curves, sample_count, sample_tick, total_at}
use Rattle.lot_curves.specs.Stretches.{last_end}
use Rattle.lot_curves.specs.Windows.{start_of}
use Rattle.lot_chart.specs.declared.standings.Standing.{Standing}
use Rattle.lot_chart.specs.Lines.{height_of}

-- The sum, up to a tick, of each state's amount over the ticks that it lasts: this state since this time, and then the
-- state after each of these turns. It stops at the first turn that isn't before the tick.
abbrev pub sum_until : (State → ℕ → ℕ) → State → ℕ → List TimedTurn → ℕ → ℕ
sum_until amount s time [] tick = amount s (tick - time)
sum_until amount s time (done ∷ others) tick =
    if nat_le tick done.time then amount s (tick - time) else amount s (done.time - time) + sum_until amount done.turn.world.state done.time others tick

-- the total value in this state: of all live threads, or of all active tickets of base
abbrev pub whole_value : By → State → ℕ
whole_value Thread s = live_value s
whole_value Currency s = base_value s

-- the value of a thread or currency in this state
abbrev pub own_value : By → State → ℕ → ℕ
own_value Thread s t = live_part s t (value_of s t)
own_value Currency s c = worth_of s c

-- these ticks, if the total value is above 0 in this state, and otherwise none
abbrev pub shared_ticks : By → State → ℕ → ℕ
shared_ticks Thread s ticks = live_ticks s ticks
shared_ticks Currency s ticks = base_ticks s ticks

-- the parts due to the thread or currency with this number, by its value, while the state lasts this many ticks
abbrev pub due_to : By → ℕ → State → ℕ → ℕ
due_to Thread t s ticks = due_part s t ticks
due_to Currency c s ticks = currency_part s c ticks

-- Up to each tick: the ticks during which the total value was above 0, and the parts due to the threads or currencies
-- that have had a number.
pub record Dues : Type 0 where
  pub live : ℕ → ℕ
  pub parts : ℕ → ℕ → ℕ

-- the dues in these turns, the first of which was made in this state (2, 4.4)
abbrev pub dues_in : By → State → List TimedTurn → Dues
dues_in by s turns = record { live = sum_until (shared_ticks by) s 0 turns; parts = λ t. sum_until (due_to by t) s 0 turns }

-- the dues in the program's turns, if it is timed
abbrev pub dues_by : By → Program → Option Dues
dues_by by program = timed program.duration
  where
    timed : Option ℕ → Option Dues
    timed None = None
    timed (Some duration) = Some (dues_in by (opening program.limits) (timed_turns program))

-- ---- in a picture

-- The growth of a sum in the window that ends at this tick, or since the curves begin. The tick counts from their
-- origin.
abbrev pub grown_at : Curves → (ℕ → ℕ) → ℕ → ℕ
grown_at curves sum tick = sum (curves.origin + tick) - sum (curves.origin + start_of curves.window tick)

-- The parts due to a line: to the threads or currencies with its number. The line of the other threads, number 0, gets
-- the parts that the other lines leave of all ticks. No thread has number 0, so this line takes nothing from them.
abbrev pub line_parts : Curves → Dues → List Standing → ℕ → ℕ → ℕ
line_parts curves dues shown thread tick =
    if thread == 0 then grown_at curves dues.live tick * tick_parts - sum_by (λ s. grown_at curves (dues.parts s.thread) tick) shown
    else grown_at curves (dues.parts thread) tick

-- These parts as a share of this many ticks, in billionths. It rounds up, so that an exact share doesn't read as less.
abbrev pub due_share : ℕ → ℕ → ℕ
due_share live parts = min (div_ceil parts (max 1 (live * 10 ^ 9))) (10 ^ 9)

-- a line's due share of all ticks, in billionths
abbrev pub line_share : Curves → Dues → List Standing → ℕ → ℕ → ℕ
line_share curves dues shown thread tick = due_share (grown_at curves dues.live tick) (line_parts curves dues shown thread tick)

-- The height of a line's due at a tick, given the ticks at the top of the plot: its share of the ticks of all turns.
abbrev pub due_height : Curves → ℕ → Dues → List Standing → ℕ → ℕ → ℕ
due_height curves top dues shown thread tick = height_of (top * 10 ^ 9) (total_at Ticks curves tick * line_share curves dues shown thread tick)

-- the tick of the last sample
abbrev pub last_sample : Curves → ℕ
last_sample curves = sample_tick (last_end curves.stretches) (sample_count (last_end curves.stretches))

-- the ticks due to a line at the last sample: its share of all ticks run, rounded up
abbrev pub due_ticks : Curves → Dues → List Standing → ℕ → ℕ
due_ticks curves dues shown thread = div_ceil (total_at Ticks curves (last_sample curves) * line_share curves dues shown thread (last_sample curves)) (10 ^ 9)

-- the most ticks due to one of these lines at the last sample; 0 without dues
abbrev pub most_due : Curves → Option Dues → List Standing → ℕ
most_due curves None shown = 0
most_due curves (Some dues) shown = fold (λ most s. max (due_ticks curves dues shown s.thread) most) 0 shown
