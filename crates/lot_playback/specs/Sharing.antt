-- The sharers of time, by their values: the threads, or the currencies.
use Rattle.std.specs.Prelude.{ℕ, ◌-◌, ◌*◌, ◌==◌, Bool, List, length, if◌then◌else◌}
use Rattle.lot_machine.specs.Facts.{base_value, live_value}
use Rattle.lot_machine.specs.State.{State, value_of}
use Rattle.lot_simulation.specs.Below.{worth_of}
use Rattle.lot_simulation.specs.Timed.{TimedTurn}
use Rattle.lot_simulation.specs.TimedReport.{due_from, live_part, makes, makes_currency, rate_in, time_from}
use Rattle.lot_simulation.specs.World.{TurnAnswer}
use Rattle.lot_playback.specs.declared.sharers.Sharers.{Sharers}
use Rattle.lot_playback.specs.declared.sharers.Sharers.TheVariants.{Threads, Currencies}

-- the value of the sharer with this number: 0 for a thread that isn't live
abbrev pub value_in : Sharers → State → ℕ → ℕ
value_in Threads s t = live_part s t (value_of s t)
value_in Currencies s c = worth_of s c

-- the total value: of all live threads, or of all active tickets of base
abbrev pub whole_in : Sharers → State → ℕ
whole_in Threads s = live_value s
whole_in Currencies s = base_value s

-- the count of numbers given, base not included
abbrev pub count_in : Sharers → State → ℕ
count_in Threads s = length s.records
count_in Currencies s = length s.currencies - 1

-- whether the sharer with this number was made
abbrev pub makes_one : Sharers → ℕ → TurnAnswer → Bool
makes_one Threads = makes
makes_one Currencies = makes_currency

-- the parts due to the sharer, by its value, while the state lasts this many ticks
abbrev pub part_in : Sharers → State → ℕ → ℕ → ℕ
part_in sharers s n ticks = value_in sharers s n * rate_in (whole_in sharers s) ticks

-- the parts due to the sharer after these turns, the first of which was made in this state
abbrev pub due_to : Sharers → State → List TimedTurn → ℕ → ℕ
due_to sharers s turns n = due_from (λ state ticks. part_in sharers state n ticks) (makes_one sharers n) s 0 0 turns

-- these ticks, if the total value is above 0, and otherwise none
abbrev pub shared_ticks : ℕ → ℕ → ℕ
shared_ticks whole ticks = if whole == 0 then 0 else ticks

-- the ticks during which the total value was above 0 in these turns, the first of which was made in this state
abbrev pub time_shared : Sharers → State → List TimedTurn → ℕ
time_shared sharers s turns = time_from (λ state ticks. shared_ticks (whole_in sharers state) ticks) s 0 0 turns
