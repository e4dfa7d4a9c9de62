-- Sums that grow from turn to turn, sampled at ticks.
use Rattle.std.specs.Prelude.{◌≡◌, ⊤, ℕ, ◌+◌, ◌-◌, ◌*◌, ◌/◌, ◌^◌, ◌<◌, ◌≤◌, ◌==◌, min, Option, Some, None, unwrap_or, List, [], ◌++◌, length, map, slice_index, slice_index_or, if◌then◌else◌}
use Rattle.std.specs.List.{range_with_len}
use Rattle.lot_machine.specs.Bounds.{IsWithinBounds}
use Rattle.lot_machine.specs.Facts.{IsSound}
use Rattle.lot_machine.specs.State.{State, opening}
use Rattle.lot_simulation.specs.Timed.{TimedTurn}
use Rattle.lot_simulation.specs.TimedReport.{tick_parts}
use Rattle.lot_simulation.specs.World.{Program, World, opening_world}
use Rattle.lot_curves.specs.declared.by.By.{By}
use Rattle.lot_curves.specs.declared.by.By.TheVariants.{Thread, Currency}
use Rattle.lot_curves.specs.Curves.{Curves, sample_count, sample_tick}
use Rattle.lot_curves.specs.Stretches.{last_end}
use Rattle.lot_curves.specs.Windows.{start_of}
use Rattle.lot_playback.specs.Owed.{time_after}
use Rattle.lot_playback.specs.Turns.{MadeTurn, world_after_turns}
use Rattle.lot_chart.specs.declared.gauges.Flow.{Flow}
use Rattle.lot_chart.specs.declared.gauges.Gauge.{Gauge}
use Rattle.lot_chart.specs.declared.gauges.Growth.{Growth}
use Rattle.lot_chart.specs.declared.gauges.Growth.TheVariants.{Live, Due}
use Rattle.lot_chart.specs.declared.gauges.Marks.{Marks}
use Rattle.lot_chart.specs.declared.lines.PlotLine.{PlotLine}
use Rattle.lot_chart.specs.declared.metering.LineDues.{LineDues}
use Rattle.lot_chart.specs.declared.metering.Meter.{Meter}
use Rattle.lot_chart.specs.declared.standings.Standing.{Standing}
use Rattle.lot_chart.specs.Dues.{Dues, due_to, grown_at, own_value, shared_ticks, sum_until, whole_value}

-- ---- growth

-- the thread or currency whose dues the sum counts, or none if it counts time
abbrev pub thread_of : Growth → Option ℕ
thread_of Live = None
thread_of (Due thread value) = Some thread

-- the growth of a sum over this many ticks, given the total value
abbrev pub grown : Growth → ℕ → ℕ → ℕ
grown Live value ticks = if value == 0 then 0 else ticks
grown (Due thread own) value ticks = own * (if value == 0 then 0 else (ticks * tick_parts + (value - 1)) / value)

-- the growth of a sum while the state lasts this many ticks
abbrev pub amount_for : By → Option ℕ → State → ℕ → ℕ
amount_for by None s ticks = shared_ticks by s ticks
amount_for by (Some t) s ticks = due_to by t s ticks

-- the value of the thread or currency is at most this
abbrev pub IsWithin : ℕ → Growth → Type 0
IsWithin value Live = ⊤
IsWithin value (Due thread own) = own ≤ value

-- the value of the thread or currency is the one in this state
abbrev pub IsNow : By → State → Growth → Type 0
IsNow by s Live = ⊤
IsNow by s (Due thread own) = own ≡ own_value by s thread

-- the sum at a tick, if no turn comes before it; it saturates at the largest number
abbrev pub flow_at : Flow → ℕ → ℕ
flow_at flow tick = min (flow.sum + grown flow.growth flow.whole_value (tick - flow.since)) (2 ^ 128 - 1)

-- the sum of a gauge from this time on
abbrev pub flow_of : ℕ → ℕ → Gauge → Flow
flow_of value since gauge = record { growth = gauge.growth; whole_value = value; since = since; sum = gauge.sum }

-- ---- the samples

-- the tick of a sample, which counts from tick 0
abbrev pub end_tick : Curves → ℕ → ℕ
end_tick curves sample = curves.origin + sample_tick (last_end curves.stretches) sample

-- the tick at which its window begins
abbrev pub start_tick : Curves → ℕ → ℕ
start_tick curves sample = curves.origin + start_of curves.window (sample_tick (last_end curves.stretches) sample)

-- the ticks of all samples
abbrev pub end_ticks : Curves → List ℕ
end_ticks curves = map (end_tick curves) (range_with_len 0 (sample_count (last_end curves.stretches) + 1))

-- the ticks at which their windows begin
abbrev pub start_ticks : Curves → List ℕ
start_ticks curves = map (start_tick curves) (range_with_len 0 (sample_count (last_end curves.stretches) + 1))

-- ---- samples of sums

-- a sum was sampled at the next ticks, up to this time
pub record HaveRead (at : ℕ → ℕ) (ticks : List ℕ) (time : ℕ) (old new : List ℕ) : Type 0 where
  pub more : length old ≤ length new
  pub kept : (k : ℕ) → k < length old → slice_index new k ≡ slice_index old k
  pub within : (k : ℕ) → length old ≤ k → k < length new → k < length ticks
  pub early : (k : ℕ) → length old ≤ k → k < length new → slice_index ticks k ≤ time
  pub read : (k : ℕ) → length old ≤ k → k < length new → slice_index new k ≡ at (slice_index ticks k)

-- a sum was sampled at all ticks
pub record HaveReadAll (at : ℕ → ℕ) (ticks : List ℕ) (time : ℕ) (old new : List ℕ) : Type 0 where
  pub have : HaveRead at ticks time old new
  pub all : length new < length ticks → time < slice_index ticks (length new)

-- a gauge has passed a stretch of time with this total value
pub record HasPassed (marks : Marks) (value since time : ℕ) (old new : Gauge) : Type 0 where
  pub growth : new.growth ≡ old.growth
  pub sum : new.sum ≡ flow_at (flow_of value since old) time
  pub starts : HaveReadAll (flow_at (flow_of value since old)) marks.starts.items time old.starts.items new.starts.items
  pub ends : HaveReadAll (flow_at (flow_of value since old)) marks.ends.items time old.ends.items new.ends.items

-- ---- from turn to turn

-- the ticks are in ascending order
abbrev pub IsAscending : List ℕ → Type 0
IsAscending ticks = (j k : ℕ) → j ≤ k → k < length ticks → slice_index ticks j ≤ slice_index ticks k

-- The samples of a sum after these turns, whichever turns come next: later samples grow from the sum so far.
pub record IsRead (amount : State → ℕ → ℕ) (first : State) (done : List TimedTurn) (s : State) (time sum most : ℕ) (ticks read : List ℕ) : Type 0 where
  pub few : length read ≤ length ticks
  pub settled : (k : ℕ) → k < length read → (others : List TimedTurn) → slice_index read k ≡ sum_until amount first 0 (done ++ others) (slice_index ticks k)
  pub small : (k : ℕ) → k < length read → slice_index read k < most
  pub pending : (k : ℕ) → length read ≤ k → k < length ticks → (others : List TimedTurn) → sum_until amount first 0 (done ++ others) (slice_index ticks k) ≡ sum + sum_until amount s time others (slice_index ticks k)

-- the most that a turn adds to a sum
abbrev pub step_of : Option ℕ → ℕ
step_of None = 2 ^ 32
step_of (Some t) = 2 ^ 97

-- a bound above all samples of a sum
abbrev pub most_of : Option ℕ → ℕ
most_of None = 2 ^ 65
most_of (Some t) = 2 ^ 125

-- a gauge after these n turns, the first of which was made in the first state, and which led to this one
pub record IsGauge (by : By) (marks : Marks) (first : State) (done : List TimedTurn) (n : ℕ) (s : State) (time : ℕ) (gauge : Gauge) : Type 0 where
  pub sum : gauge.sum ≤ n * step_of (thread_of gauge.growth)
  pub starts : IsRead (amount_for by (thread_of gauge.growth)) first done s time gauge.sum (most_of (thread_of gauge.growth)) marks.starts.items gauge.starts.items
  pub ends : IsRead (amount_for by (thread_of gauge.growth)) first done s time gauge.sum (most_of (thread_of gauge.growth)) marks.ends.items gauge.ends.items

-- each of these gauges has the property
abbrev pub EachGauge : (Gauge → Type 0) → List Gauge → Type 0
EachGauge P gauges = (place : ℕ) (d : Gauge) → place < length gauges → P (slice_index_or gauges place d)

-- by currency the number isn't 0, which is base's
abbrev pub IsColumn : By → Option ℕ → Type 0
IsColumn Thread number = ⊤
IsColumn Currency None = ⊤
IsColumn Currency (Some c) = 0 < c

-- the gauges are of the same threads or currencies as these
pub record KeepThreads (old new : List Gauge) : Type 0 where
  pub count : length new ≡ length old
  pub each : (place : ℕ) (d : Gauge) → place < length old → thread_of (slice_index_or new place d).growth ≡ thread_of (slice_index_or old place d).growth

-- each gauge has passed a stretch of time
pub record HaveAllPassed (marks : Marks) (value since time : ℕ) (old new : List Gauge) : Type 0 where
  pub count : length new ≡ length old
  pub each : (place : ℕ) (d : Gauge) → place < length old → HasPassed marks value since time (slice_index_or old place d) (slice_index_or new place d)

-- a gauge is unchanged, except for the value of its thread or currency, which is the one in this state
pub record IsRenewed (by : By) (s : State) (old new : Gauge) : Type 0 where
  pub thread : thread_of new.growth ≡ thread_of old.growth
  pub now : IsNow by s new.growth
  pub sum : new.sum ≡ old.sum
  pub starts : new.starts.items ≡ old.starts.items
  pub ends : new.ends.items ≡ old.ends.items

-- each gauge is renewed
pub record AreRenewed (by : By) (s : State) (old new : List Gauge) : Type 0 where
  pub count : length new ≡ length old
  pub each : (place : ℕ) (d : Gauge) → place < length old → IsRenewed by s (slice_index_or old place d) (slice_index_or new place d)

-- a meter advances the time to this
pub record HasPassedAll (now : ℕ) (old new : Meter) : Type 0 where
  pub by : new.by ≡ old.by
  pub marks : new.marks ≡ old.marks
  pub time : new.time ≡ old.time
  pub value : new.whole_value ≡ old.whole_value
  pub live : HasPassed old.marks old.whole_value old.time now old.live new.live
  pub threads : HaveAllPassed old.marks old.whole_value old.time now old.threads.items new.threads.items

-- a meter updates its values from this state
pub record HasRenewed (s : State) (old new : Meter) : Type 0 where
  pub by : new.by ≡ old.by
  pub marks : new.marks ≡ old.marks
  pub time : new.time ≡ old.time
  pub value : new.whole_value ≡ whole_value old.by s
  pub small : new.whole_value < 2 ^ 96
  pub live : new.live ≡ old.live
  pub threads : AreRenewed old.by s old.threads.items new.threads.items

-- a gauge of this growth before the first turn, without samples
pub record IsNew (growth : Growth) (gauge : Gauge) : Type 0 where
  pub growth_is : gauge.growth ≡ growth
  pub sum : gauge.sum ≡ 0
  pub starts : gauge.starts.items ≡ []
  pub ends : gauge.ends.items ≡ []

-- there is a new gauge for the thread or currency of each line
pub record AreNew (shown : List Standing) (gauges : List Gauge) : Type 0 where
  pub count : length gauges ≡ length shown
  pub each : (place : ℕ) (d : Gauge) (e : Standing) → place < length shown → IsNew (Due (slice_index_or shown place e).thread 0) (slice_index_or gauges place d)

-- by currency no line is of number 0
abbrev pub AreColumns : By → List Standing → Type 0
AreColumns by shown = (place : ℕ) (e : Standing) → place < length shown → IsColumn by (Some (slice_index_or shown place e).thread)

-- a meter for these lines before the first turn
pub record IsNewMeter (curves : Curves) (shown : List Standing) (meter : Meter) : Type 0 where
  pub by : meter.by ≡ curves.by
  pub early : curves.origin + last_end curves.stretches < 2 ^ 56
  pub starts : meter.marks.starts.items ≡ start_ticks curves
  pub ends : meter.marks.ends.items ≡ end_ticks curves
  pub time : meter.time ≡ 0
  pub value : meter.whole_value ≡ 0
  pub live : IsNew Live meter.live
  pub threads : AreNew shown meter.threads.items

-- ---- a play

-- a made turn as a timed one, at 0 if it has no time
abbrev pub timed_turn : MadeTurn → TimedTurn
timed_turn made = record { time = unwrap_or made.time 0; actor = made.actor; turn = made.turn }

-- the state after these turns of the program
abbrev pub state_of : Program → List MadeTurn → State
state_of program turns = (world_after_turns (opening_world program) turns).state

-- a gauge after these turns of the program
abbrev pub IsGaugeOf : By → Program → List MadeTurn → Marks → Gauge → Type 0
IsGaugeOf by program turns marks gauge = IsGauge by marks (opening program.limits) (map timed_turn turns) (length turns) (state_of program turns) (time_after 0 (map timed_turn turns)) gauge

-- A meter that started as `first`, after these turns of the program. It samples no more turns than a program has. No
-- thread or currency is worth more than the total value, since the state is sound.
pub record IsMeter (program : Program) (turns : List MadeTurn) (first now : Meter) : Type 0 where
  pub bounds : IsWithinBounds program.limits
  pub sound : IsSound (state_of program turns)
  pub by : now.by ≡ first.by
  pub columns : EachGauge (λ gauge. IsColumn first.by (thread_of gauge.growth)) first.threads.items
  pub marks : now.marks ≡ first.marks
  pub starts : IsAscending first.marks.starts.items
  pub ends : IsAscending first.marks.ends.items
  pub time : now.time ≡ time_after 0 (map timed_turn turns)
  pub value : now.whole_value ≡ whole_value first.by (state_of program turns)
  pub small : now.whole_value < 2 ^ 96
  pub clock : thread_of now.live.growth ≡ None
  pub threads : KeepThreads first.threads.items now.threads.items
  pub own : EachGauge (λ gauge. IsNow first.by (state_of program turns) gauge.growth) now.threads.items
  pub live : length turns < 2 ^ 24 → IsGaugeOf first.by program turns first.marks now.live
  pub each : length turns < 2 ^ 24 → EachGauge (IsGaugeOf first.by program turns first.marks) now.threads.items

-- a meter before a turn, made in this world
pub record IsAwaiting (program : Program) (turns : List MadeTurn) (world : World) (first now : Meter) : Type 0 where
  pub is : IsMeter program turns first now
  pub world_is : world ≡ world_after_turns (opening_world program) turns

-- ---- the samples

-- the growth of a gauge in a sample's window
abbrev pub grown_in : Gauge → ℕ → ℕ
grown_in gauge sample = slice_index gauge.ends.items sample - slice_index gauge.starts.items sample

-- a gauge has samples at all ticks: it grew as this sum does, and by less than this
pub record IsSampled (curves : Curves) (sum : ℕ → ℕ) (most : ℕ) (gauge : Gauge) : Type 0 where
  pub starts : length gauge.starts.items ≡ sample_count (last_end curves.stretches) + 1
  pub ends : length gauge.ends.items ≡ sample_count (last_end curves.stretches) + 1
  pub exact : (sample : ℕ) → sample ≤ sample_count (last_end curves.stretches) → grown_in gauge sample ≡ grown_at curves sum (sample_tick (last_end curves.stretches) sample)
  pub small : (sample : ℕ) → sample ≤ sample_count (last_end curves.stretches) → grown_in gauge sample < most

-- the dues of these lines are those sampled
pub record AreDues (curves : Curves) (dues : Dues) (shown : List Standing) (read : LineDues) : Type 0 where
  pub live : IsSampled curves dues.live (2 ^ 65) read.live
  pub count : length read.threads.items ≡ length shown
  pub each : (place : ℕ) (d : Gauge) (e : Standing) → place < length shown → IsSampled curves (dues.parts (slice_index_or shown place e).thread) (2 ^ 125) (slice_index_or read.threads.items place d)

-- there are dues if and only if the program is timed
abbrev pub HaveDues : Curves → Option Dues → List Standing → Option LineDues → Type 0
HaveDues curves None shown None = ⊤
HaveDues curves (Some dues) shown (Some read) = AreDues curves dues shown read
HaveDues curves other shown read = ⊥

-- the line at this index is this thread's
pub record IsLineOf (shown : List Standing) (place thread : ℕ) : Type 0 where
  pub there : place < length shown
  pub same : (e : Standing) → thread ≡ (slice_index_or shown place e).thread

-- these are the lines of the standings, in their order
pub record AreLinesOf (shown : List Standing) (lines : List PlotLine) : Type 0 where
  pub count : length lines ≡ length shown
  pub each : (place : ℕ) (d : PlotLine) → place < length lines → IsLineOf shown place (slice_index_or lines place d).thread
