-- The dues in the turns of a program.
use Rattle.lot_chart.proofs.Common.{Answered, Answers, AreColumns, AreDues, AreLinesOf, By, Currencies, Currency, Curves, Due, Dues, EachGauge, Gauge, Growth, HasJustMade, HasPassed, HasPassedAll, HasRenewed, HaveDues, IsAscending, IsAwaiting, IsColumn, IsDispatch, IsGauge, IsGaugeOf, IsMeter, IsNew, IsNewMeter, IsNow, IsRead, IsRenewed, IsSampled, IsSound, IsWithin, IsWithinBounds, KeepThreads, LineDues, List, Live, MadeTurn, Marks, Meter, None, Option, PlotLine, Program, Seen, Some, Standing, State, Thread, Threads, TimedTurn, TurnMade, World, amount_for, answer_in, ap, arith, at_number-suc, cases_lt, div-mul-le_self, due_to, dues_by, dues_in, end_tick, false, flow_at, flow_of, get_or, get_or-map-range_with_len, get_or_append_left, get_or_push, height_of, if◌then◌else◌, inl, inr, is_live, last_end, le-div, length, length-map-range_with_len, length_push, lines_after, lines_of, map, map_push, max, most_of, mul-le-mul_right, opening, opening_world, option_any, own_value, place_of, program_turns, range_with_len, refl, sample_count, sample_tick, slice_index, start_of, start_tick, state_of, subst, suc, sum_by, sum_by-cons, sum_until, sym, system_run, system_turn, thread_of, time-more, time_after, timed_turn, timed_turns, turn-answers, turns_by, turns_in_time, unwrap_or, value-kept, value_of, whole-kept, whole_value, world-one_more, world_of, zero, zero-add, ℕ, [], ◌*◌, ◌++◌, ◌+◌, ◌-◌, ◌<◌, ◌^◌, ◌∙◌, ◌∷◌, ◌≡◌, ◌≤◌, ◌⊎◌}
use Rattle.lot_playback.specs.declared.turn.Turn.{Turn as ATurn}
use Rattle.lot_chart.proofs.TableSizes.{sample-early}
use Rattle.lot_chart.proofs.Worth.{run-sound, worth-none}
use Rattle.lot_chart.proofs.Readings.{flow-is, gauge-more, gauge-renewed, last-read, now-within}

-- ---- new gauges

-- the gauge of one line more
pub new-one : (shown : List Standing) (gauges next : List Gauge) (index : ℕ) (gauge : Gauge) (thread : ℕ)
    → next ≡ gauges ++ gauge ∷ [] → length gauges ≡ index → IsNew (Due thread 0) gauge
    → ((e : Standing) → thread ≡ (get_or shown index e).thread)
    → ((place : ℕ) (d : Gauge) (e : Standing) → place < index
    → IsNew (Due (get_or shown place e).thread 0) (get_or gauges place d)) → (place : ℕ) (d : Gauge) (e : Standing)
    → place < index + 1 → IsNew (Due (get_or shown place e).thread 0) (get_or next place d)
new-one shown gauges next index gauge thread put count new own each place d e few = by (cases_lt place index)
  where
    by : (place < index) ⊎ (index ≤ place) → IsNew (Due (get_or shown place e).thread 0) (get_or next place d)
    by (inl before) =
        subst (λ g. IsNew (Due (get_or shown place e).thread 0) g) (sym (ap (λ (xs : List Gauge). get_or xs place d) put
        ∙ get_or_append_left gauges (gauge ∷ []) d place (omega (arith, before, count)))) (each place d e before)
    by (inr after) =
        let here : place ≡ index = omega (arith, few, after) in
        subst (λ g. IsNew (Due (get_or shown place e).thread 0) g)
        (sym (ap (λ (xs : List Gauge). get_or xs place d) put ∙ get_or_push gauges gauge d place (count ∙ sym here)))
        (subst (λ t. IsNew (Due t 0) gauge) (own e ∙ ap (λ k. (get_or shown k e).thread) (sym here)) new)

-- nobody lives before the first turn
none-live : (t : ℕ) → is_live [] t ≡ false
none-live zero = refl
none-live (suc i) = ap (option_any (λ flag. flag)) (at_number-suc [] i)

none-worth : (program : Program) (what : By) (t : ℕ) → IsSound (opening program.limits) → IsColumn what (Some t)
    → 0 ≡ own_value what (opening program.limits) t
none-worth program Thread t sound column =
    sym (ap (λ b. if b then value_of (opening program.limits) t else 0) (none-live t))
none-worth program Currency c sound column = sym (worth-none (opening program.limits) c sound (omega (arith, column)))

-- nothing is shared out before the first turn
none-shared : (program : Program) (what : By) → 0 ≡ whole_value what (opening program.limits)
none-shared program Thread = refl
none-shared program Currency = let none : 0 ≡ 0 * program.limits.unit = omega arith in none

-- nothing was read before the first turn
none-read : (amount : State → ℕ → ℕ) (first : State) (most sum : ℕ) (ticks read : List ℕ) → sum ≡ 0 → read ≡ []
    → IsRead amount first [] first 0 sum most ticks read
none-read amount first most sum ticks read none empty =
    subst (λ (xs : List ℕ). IsRead amount first [] first 0 sum most ticks xs) (sym empty)
    (record {
      few = omega arith;
      settled = λ k below. absurd (omega (arith, below));
      small = λ k below. absurd (omega (arith, below));
      pending = λ k after below others. sym (ap (λ n. n + sum_until amount first 0 others (slice_index ticks k)) none
          ∙ zero-add (sum_until amount first 0 others (slice_index ticks k)));
    })

new-gauge : (what : By) (marks : Marks) (first : State) (growth : Growth) (gauge : Gauge) → IsNew growth gauge
    → IsGauge what marks first [] 0 first 0 gauge
new-gauge what marks first growth gauge new = record {
  sum = omega (arith, new.sum);
  starts = none-read (amount_for what (thread_of gauge.growth)) first
      (most_of (thread_of gauge.growth)) gauge.sum marks.starts.items gauge.starts.items new.sum new.starts;
  ends = none-read (amount_for what (thread_of gauge.growth)) first
      (most_of (thread_of gauge.growth)) gauge.sum marks.ends.items gauge.ends.items new.sum new.ends;
}

-- ---- the samples

samples-ascend : (last j k : ℕ) → j ≤ k → sample_tick last j ≤ sample_tick last k
samples-ascend last j k before =
    le-div (sample_tick last j) (k * last) (max 1 (sample_count last)) (omega arith)
    (omega (arith, div-mul-le_self (j * last) (max 1 (sample_count last)), mul-le-mul_right last before))

ticks-at : (f : ℕ → ℕ) (n : ℕ) (ticks : List ℕ) → ticks ≡ map f (range_with_len 0 n) → (k : ℕ) → k < n
    → slice_index ticks k ≡ f k
ticks-at f n ticks is k below = ap (λ (xs : List ℕ). slice_index xs k) is
    ∙ get_or-map-range_with_len f 0 n k k 0 below (omega arith)

ticks-count : (f : ℕ → ℕ) (n : ℕ) (ticks : List ℕ) → ticks ≡ map f (range_with_len 0 n) → length ticks ≡ n
ticks-count f n ticks is = ap length is ∙ length-map-range_with_len f 0 n

ascend : (f : ℕ → ℕ) (n : ℕ) (ticks : List ℕ) → ticks ≡ map f (range_with_len 0 n) → ((j k : ℕ) → j ≤ k → f j ≤ f k)
    → IsAscending ticks
ascend f n ticks is rises j k before below =
    let within : k < n = omega (arith, below, ticks-count f n ticks is) in
    omega
    (arith, ticks-at f n ticks is j (omega (arith, before, within)), ticks-at f n ticks is k within, rises j k before)

starts-ascend : (curves : Curves) (j k : ℕ) → j ≤ k → start_tick curves j ≤ start_tick curves k
starts-ascend curves j k before = by curves.window
  where
    rises : sample_tick (last_end curves.stretches) j ≤ sample_tick (last_end curves.stretches) k
    rises = samples-ascend (last_end curves.stretches) j k before

    by : (w : Option ℕ) → curves.origin + start_of w (sample_tick (last_end curves.stretches) j)
        ≤ curves.origin + start_of w (sample_tick (last_end curves.stretches) k)
    by None = omega arith
    by (Some window) = omega (arith, rises)

ends-ascend : (curves : Curves) (j k : ℕ) → j ≤ k → end_tick curves j ≤ end_tick curves k
ends-ascend curves j k before = omega (arith, samples-ascend (last_end curves.stretches) j k before)

-- ---- before the first turn

pub new-meter : (program : Program) (curves : Curves) (shown : List Standing) (meter : Meter)
    → IsWithinBounds program.limits → AreColumns curves.by shown → IsNewMeter curves shown meter
    → IsMeter program [] meter meter
new-meter program curves shown meter bounds columns new = record {
  bounds = bounds;
  sound = sound;
  by = refl;
  columns = λ place d below. subst (IsColumn meter.by) (sym (ap thread_of (at place d below).growth_is))
      (column place (omega (arith, below, new.threads.count)));
  marks = refl;
  starts = ascend (start_tick curves) (sample_count (last_end curves.stretches) + 1) meter.marks.starts.items new.starts
      (starts-ascend curves);
  ends = ascend (end_tick curves) (sample_count (last_end curves.stretches) + 1) meter.marks.ends.items new.ends
      (ends-ascend curves);
  time = new.time;
  value = new.value ∙ none-shared program meter.by;
  small = omega (arith, new.value);
  clock = ap thread_of new.live.growth_is;
  threads = record { count = refl; each = λ place d below. refl };
  own = λ place d below. subst (IsNow meter.by (opening program.limits)) (sym (at place d below).growth_is) (none-worth
      program meter.by (get_or shown place none).thread sound (column place (omega (arith, below, new.threads.count))));
  live = λ few. new-gauge meter.by meter.marks (opening program.limits) Live meter.live new.live;
  each = λ few place d below. new-gauge meter.by meter.marks (opening program.limits)
      (Due (get_or shown place none).thread 0) (get_or meter.threads.items place d) (at place d below);
}
  where
    none : Standing
    none = record { thread = 0; ticks = 0 }

    sound : IsSound (opening program.limits)
    sound = run-sound program [] bounds

    column : (place : ℕ) → place < length shown → IsColumn meter.by (Some (get_or shown place none).thread)
    column place below =
        subst (λ what. IsColumn what (Some (get_or shown place none).thread)) (sym new.by) (columns place none below)

    at : (place : ℕ) (d : Gauge) → place < length meter.threads.items
        → IsNew (Due (get_or shown place none).thread 0) (get_or meter.threads.items place d)
    at place d below = new.threads.each place d none (omega (arith, below, new.threads.count))

-- the values are within the whole
pub meter-within : (program : Program) (turns : List MadeTurn) (first now : Meter) → IsMeter program turns first now
    → EachGauge (λ gauge. IsWithin now.whole_value gauge.growth) now.threads.items
meter-within program turns first now is place d below = now-within first.by (state_of program turns) now.whole_value
    (get_or now.threads.items place d).growth is.sound is.value (is.own place d below)

-- the system's state is sound
pub ran-sound : (program : Program) (seen : Seen) → seen.setting.program ≡ program → IsWithinBounds program.limits
    → IsSound (world_of seen).state
ran-sound program seen is bounds =
    subst (λ (p : Program). IsSound (system_run p seen.history).state) (sym is) (run-sound program seen.history bounds)

-- by currency no gauge is of base
pub passed-columns : (program : Program) (turns : List MadeTurn) (first old : Meter) → IsMeter program turns first old
    → (now : ℕ) (passed : Meter) → HasPassedAll now old passed
    → EachGauge (λ gauge. IsColumn passed.by (thread_of gauge.growth)) passed.threads.items
passed-columns program turns first old was now passed passes place d below =
    let there : place < length old.threads.items = omega (arith, below, passes.threads.count) in
    let first_there : place < length first.threads.items = omega (arith, there, was.threads.count) in
    let thread : thread_of (get_or first.threads.items place d).growth
    ≡ thread_of (get_or passed.threads.items place d).growth =
    sym (ap thread_of (passes.threads.each place d there).growth ∙ was.threads.each place d first_there) in
    subst (λ what. IsColumn what (thread_of (get_or passed.threads.items place d).growth)) (sym (passes.by ∙ was.by))
    (subst (λ (t : Option ℕ). IsColumn first.by t) thread (was.columns place d first_there))

pub clock-within : (value : ℕ) (growth : Growth) → thread_of growth ≡ None → IsWithin value growth
clock-within value Live is = tt
clock-within value (Due thread own) is = cc

clock-now : (what : By) (s : State) (growth : Growth) → thread_of growth ≡ None → IsNow what s growth
clock-now what s Live is = tt
clock-now what s (Due thread own) is = cc

-- ---- one turn more

module _ (program : Program) (turns : List MadeTurn) (made : MadeTurn) (turn : ATurn) (seen : Seen)
    (just : HasJustMade program turns made turn seen) (first old passed : Meter)
    (awaits : IsAwaiting program turns made.before first old) (time now : ℕ) (is_time : time ≡ unwrap_or turn.time 0)
    (is_now : now ≡ time)
    (early : time < 2 ^ 32) (passes : HasPassedAll now old passed) where
  abbrev all : List MadeTurn
  all = turns ++ made ∷ []

  was : IsMeter program turns first old
  was = awaits.is

  one-more : map timed_turn all ≡ map timed_turn turns ++ timed_turn made ∷ []
  one-more = map_push timed_turn turns made

  made-at : unwrap_or made.time 0 ≡ time
  made-at = sym (is_time ∙ ap (λ (t : Option ℕ). unwrap_or t 0) just.reports.time)

  time-then : time_after 0 (map timed_turn all) ≡ unwrap_or made.time 0
  time-then = ap (time_after 0) one-more ∙ time-more 0 (map timed_turn turns) (timed_turn made)

  led : made.turn.world.state ≡ state_of program all
  led = ap (λ (w : World). w.state) (sym (world-one_more (opening_world program) turns made))

  seen-is : (world_of seen).state ≡ state_of program all
  seen-is = ap (λ (w : World). w.state) just.has.world

  -- the system has made the turns of the program
  sound-then : IsSound (state_of program all)
  sound-then = subst IsSound seen-is (ran-sound program seen just.has.program_is was.bounds)

  -- a gauge that has passed the time up to the turn
  gauge-then : (before after : Gauge) → IsNow first.by (state_of program turns) before.growth
      → HasPassed old.marks old.whole_value old.time now before after
      → (length turns < 2 ^ 24 → IsGaugeOf first.by program turns first.marks before) → length all < 2 ^ 24
      → IsGaugeOf first.by program all first.marks after
  gauge-then before after own pass is few =
      let n = length turns in
      let room : n < 2 ^ 24 = omega (arith, few, length_push turns made) in
      let s = state_of program turns in
      let next = state_of program all in
      let begun = time_after 0 (map timed_turn turns) in
      let moved : HasPassed first.marks old.whole_value begun (unwrap_or made.time 0) before after =
      subst (λ (m : Marks). HasPassed m old.whole_value begun (unwrap_or made.time 0) before after) was.marks
      (subst (λ k. HasPassed old.marks old.whole_value k (unwrap_or made.time 0) before after) was.time
      (subst (λ k. HasPassed old.marks old.whole_value old.time k before after) (is_now ∙ sym made-at) pass)) in
      let more = gauge-more first.by first.marks was.starts was.ends (opening program.limits)
      (map timed_turn turns) n room s was.sound begun old.whole_value was.value was.small next
      (timed_turn made) before after (omega (arith, made-at, early)) led own moved (is room) in
      subst (λ k. IsGauge first.by first.marks (opening program.limits) (map timed_turn all) (length all) next k after)
      (sym time-then)
      (subst (λ k. IsGauge first.by first.marks (opening program.limits) (map timed_turn all) k next
      (unwrap_or made.time 0) after) (sym (length_push turns made))
      (subst (λ (ts : List TimedTurn). IsGauge first.by first.marks (opening program.limits) ts (n + 1) next
      (unwrap_or made.time 0) after) (sym one-more) more))

  live-then : length all < 2 ^ 24 → IsGaugeOf first.by program all first.marks passed.live
  live-then = gauge-then old.live passed.live
      (clock-now first.by (state_of program turns) old.live.growth was.clock) passes.live was.live

  pass-at : (place : ℕ) (d : Gauge) → place < length passed.threads.items → place < length old.threads.items
  pass-at place d below = omega (arith, below, passes.threads.count)

  each-then : length all < 2 ^ 24 → EachGauge (IsGaugeOf first.by program all first.marks) passed.threads.items
  each-then few place d below =
      let there = pass-at place d below in
      gauge-then (get_or old.threads.items place d) (get_or passed.threads.items place d) (was.own place d there)
      (passes.threads.each place d there) (λ room. was.each room place d there) few

  threads-then : KeepThreads first.threads.items passed.threads.items
  threads-then = record {
    count = passes.threads.count ∙ was.threads.count;
    each = λ place d below. let there : place < length old.threads.items = omega (arith, below, was.threads.count) in
        ap thread_of (passes.threads.each place d there).growth ∙ was.threads.each place d below;
  }

  clock-then : thread_of passed.live.growth ≡ None
  clock-then = ap thread_of passes.live.growth ∙ was.clock

  -- after a draw, and after a quantum has ended, values stay
  pub meter-kept : turn.has_ended ≡ false → IsDispatch turn.event
      → IsMeter program all first (record passed { time = time })
  meter-kept answered dispatch = record {
    bounds = was.bounds;
    sound = sound-then;
    by = passes.by ∙ was.by;
    columns = was.columns;
    marks = passes.marks ∙ was.marks;
    starts = was.starts;
    ends = was.ends;
    time = sym (time-then ∙ made-at);
    value = passes.value ∙ was.value ∙ sym (whole-same first.by);
    small = omega (arith, passes.value, was.small);
    clock = clock-then;
    threads = threads-then;
    own = λ place d below. let there = pass-at place d below in kept (get_or passed.threads.items place d).growth
        (subst (IsNow first.by s) (sym (passes.threads.each place d there).growth) (was.own place d there));
    live = live-then;
    each = each-then;
  }
    where
      s : State
      s = state_of program turns

      next : State
      next = state_of program all

      answer : made.turn.answer ≡ Answered turn.event turn.reply
      answer = just.reports.answer ∙ ap (λ b. answer_in b turn.event turn.reply) answered

      own_turn : system_turn program made.before made.actor ≡ made.turn
      own_turn = sym just.turn_is

      answers : Answers s turn.event turn.reply next
      answers =
          let machine = turn-answers program made.before made.actor turn.event turn.reply
          (ap (λ (t : TurnMade). t.answer) own_turn ∙ answer) in
          subst (λ (w : World). Answers w.state turn.event turn.reply next) awaits.world_is
          (subst (λ (x : State). Answers made.before.state turn.event turn.reply x)
          (ap (λ (t : TurnMade). t.world.state) own_turn ∙ led) machine)

      whole-same : (what : By) → whole_value what next ≡ whole_value what s
      whole-same Thread = whole-kept s turn.event dispatch turn.reply next answers Threads
      whole-same Currency = whole-kept s turn.event dispatch turn.reply next answers Currencies

      own-kept : (what : By) (n : ℕ) → own_value what next n ≡ own_value what s n
      own-kept Thread t = value-kept s turn.event dispatch turn.reply next answers Threads t
      own-kept Currency c = value-kept s turn.event dispatch turn.reply next answers Currencies c

      kept : (growth : Growth) → IsNow first.by s growth → IsNow first.by next growth
      kept Live is = tt
      kept (Due thread own) is = is ∙ sym (own-kept first.by thread)

  -- after any other turn they are taken over anew
  pub meter-renewed : (new : Meter) → HasRenewed (world_of seen).state (record passed { time = time }) new
      → IsMeter program all first new
  meter-renewed new renews = record {
    bounds = was.bounds;
    sound = sound-then;
    by = renews.by ∙ by_then;
    columns = was.columns;
    marks = renews.marks ∙ passes.marks ∙ was.marks;
    starts = was.starts;
    ends = was.ends;
    time = renews.time ∙ sym (time-then ∙ made-at);
    value = renews.value ∙ (λ i. whole_value (by_then i) (seen-is i));
    small = renews.small;
    clock = ap (λ (g : Gauge). thread_of g.growth) renews.live ∙ clock-then;
    threads = record {
      count = renews.threads.count ∙ threads-then.count;
      each = λ place d below. (renews.threads.each place d (omega (arith, below, threads-then.count))).thread
          ∙ threads-then.each place d below;
    };
    own = λ place d below. subst (λ (x : State). IsNow first.by x (get_or new.threads.items place d).growth) seen-is
        (now_then place d below).now;
    live = λ few. subst (λ (g : Gauge). IsGaugeOf first.by program all first.marks g) (sym renews.live) (live-then few);
    each = λ few place d below. gauge-renewed first.by first.marks (opening program.limits) (map timed_turn all)
        (length all) (state_of program all) (world_of seen).state (time_after 0 (map timed_turn all))
        (get_or passed.threads.items place d) (get_or new.threads.items place d) (now_then place d below)
        (each-then few place d (there place d below));
  }
    where
      there : (place : ℕ) (d : Gauge) → place < length new.threads.items → place < length passed.threads.items
      there place d below = omega (arith, below, renews.threads.count)

      by_then : passed.by ≡ first.by
      by_then = passes.by ∙ was.by

      now_then : (place : ℕ) (d : Gauge) → place < length new.threads.items
          → IsRenewed first.by (world_of seen).state (get_or passed.threads.items place d)
          (get_or new.threads.items place d)
      now_then place d below = subst (λ what. IsRenewed what (world_of seen).state (get_or passed.threads.items place d)
          (get_or new.threads.items place d)) by_then (renews.threads.each place d (there place d below))

-- ---- after the last turn

-- the timed turns of a program
turns-again : (w : World) (turns : List TimedTurn) → map timed_turn (turns_in_time w turns) ≡ turns
turns-again w [] = refl
turns-again w (t ∷ turns) = ap (λ (ts : List TimedTurn). t ∷ ts) (turns-again t.turn.world turns)

module _ (program : Program) (duration : ℕ) (timed : program.duration ≡ Some duration) where
  turns-are : map timed_turn (program_turns program) ≡ timed_turns program
  turns-are = ap (λ (d : Option ℕ). map timed_turn (turns_by program d)) timed
      ∙ turns-again (opening_world program) (timed_turns program)

  module _ (curves : Curves) (shown : List Standing) (first old passed : Meter) (new : IsNewMeter curves shown first)
      (is : IsMeter program (program_turns program) first old) (few : length (program_turns program) < 2 ^ 24)
      (passes : HasPassedAll (2 ^ 64 - 1) old passed) where
    abbrev turns : List MadeTurn
    turns = program_turns program

    abbrev count : ℕ
    count = sample_count (last_end curves.stretches) + 1

    tick-early : (f : ℕ → ℕ) (ticks : List ℕ) → ticks ≡ map f (range_with_len 0 count)
        → ((k : ℕ) → k < count → f k < 2 ^ 64) → (k : ℕ) → k < length ticks → slice_index ticks k < 2 ^ 64
    tick-early f ticks are small k below =
        let within : k < count = omega (arith, below, ticks-count f count ticks are) in
        omega (arith, ticks-at f count ticks are k within, small k within)

    before-end : (k : ℕ) → k < count → sample_tick (last_end curves.stretches) k ≤ last_end curves.stretches
    before-end k below = sample-early (last_end curves.stretches) k (omega (arith, below))

    -- a gauge that has been read at all ticks
    sampled : (before after : Gauge) → IsNow first.by (state_of program turns) before.growth
        → HasPassed old.marks old.whole_value old.time (2 ^ 64 - 1) before after
        → IsGaugeOf first.by program turns first.marks before
        → IsSampled curves (sum_until (amount_for first.by (thread_of before.growth))
        (opening program.limits) 0 (timed_turns program)) (most_of (thread_of before.growth)) after
    sampled before after own pass gauge =
        let t = thread_of before.growth in
        let amount = amount_for first.by t in
        let s = state_of program turns in
        let begun = time_after 0 (map timed_turn turns) in
        let flows = flow-is first.by first.marks was_starts was_ends (opening program.limits) (map timed_turn turns)
        (length turns) few s is.sound begun old.whole_value is.value is.small before own gauge.sum in
        let moved : HasPassed first.marks old.whole_value begun (2 ^ 64 - 1) before after =
        subst (λ (m : Marks). HasPassed m old.whole_value begun (2 ^ 64 - 1) before after) is.marks
        (subst (λ k. HasPassed old.marks old.whole_value k (2 ^ 64 - 1) before after) is.time pass) in
        let at = flow_at (flow_of old.whole_value begun before) in
        let starts = last-read amount (opening program.limits) (map timed_turn turns) s begun before.sum
        (most_of t) first.marks.starts.items before.starts.items after.starts.items at gauge.starts moved.starts
        (tick-early (start_tick curves) first.marks.starts.items new.starts starts_early) flows in
        let ends = last-read amount (opening program.limits) (map timed_turn turns) s begun before.sum
        (most_of t) first.marks.ends.items before.ends.items after.ends.items at gauge.ends moved.ends
        (tick-early (end_tick curves) first.marks.ends.items new.ends ends_early) flows in
        let sum = sum_until amount (opening program.limits) 0 (timed_turns program) in
        let start : (k : ℕ) → k < count → slice_index after.starts.items k ≡ sum (start_tick curves k) =
        λ k below. starts.exact k (omega (arith, below, starts_count)) ∙ ap (λ (ts : List TimedTurn).
        sum_until amount (opening program.limits) 0 ts (slice_index first.marks.starts.items k)) turns-are
        ∙ ap sum (ticks-at (start_tick curves) count first.marks.starts.items new.starts k below) in
        let end : (k : ℕ) → k < count → slice_index after.ends.items k ≡ sum (end_tick curves k) =
        λ k below. ends.exact k (omega (arith, below, ends_count)) ∙ ap (λ (ts : List TimedTurn).
        sum_until amount (opening program.limits) 0 ts (slice_index first.marks.ends.items k)) turns-are
        ∙ ap sum (ticks-at (end_tick curves) count first.marks.ends.items new.ends k below) in
        record {
          starts = starts.count ∙ starts_count;
          ends = ends.count ∙ ends_count;
          exact = λ sample within. let below : sample < count = omega (arith, within) in
              λ i. end sample below i - start sample below i;
          small = λ sample within. omega (arith, ends.small sample (omega (arith, within, ends_count)));
        }
      where
        was_starts : IsAscending first.marks.starts.items
        was_starts = is.starts

        was_ends : IsAscending first.marks.ends.items
        was_ends = is.ends

        starts_count : length first.marks.starts.items ≡ count
        starts_count = ticks-count (start_tick curves) count first.marks.starts.items new.starts

        ends_count : length first.marks.ends.items ≡ count
        ends_count = ticks-count (end_tick curves) count first.marks.ends.items new.ends

        ends_early : (k : ℕ) → k < count → end_tick curves k < 2 ^ 64
        ends_early k below = omega (arith, before-end k below, new.early)

        starts_early : (k : ℕ) → k < count → start_tick curves k < 2 ^ 64
        starts_early k below = by curves.window
          where
            by : (w : Option ℕ) → curves.origin + start_of w (sample_tick (last_end curves.stretches) k) < 2 ^ 64
            by None = omega (arith, new.early)
            by (Some window) = omega (arith, before-end k below, new.early)

    due-all : (dues : LineDues) → dues.live ≡ passed.live → dues.threads.items ≡ passed.threads.items
        → AreDues curves (dues_in curves.by (opening program.limits) (timed_turns program)) shown dues
    due-all dues lives threads =
        record { live = live; count = ap length threads ∙ passes.threads.count ∙ is.threads.count ∙ new.threads.count; each = each }
      where
        s : State
        s = state_of program turns

        -- the meter is for what the curves are by
        by_curves : (before after : Gauge) → IsSampled curves (sum_until (amount_for first.by (thread_of before.growth))
            (opening program.limits) 0 (timed_turns program)) (most_of (thread_of before.growth)) after
            → IsSampled curves (sum_until (amount_for curves.by (thread_of before.growth))
            (opening program.limits) 0 (timed_turns program)) (most_of (thread_of before.growth)) after
        by_curves before after is_sampled = subst (λ what. IsSampled curves
            (sum_until (amount_for what (thread_of before.growth)) (opening program.limits) 0 (timed_turns program))
            (most_of (thread_of before.growth)) after) new.by is_sampled

        live : IsSampled curves (dues_in curves.by (opening program.limits) (timed_turns program)).live
            (2 ^ 65) dues.live
        live =
            subst (λ (g : Gauge). IsSampled curves (sum_until (amount_for curves.by None) (opening program.limits) 0
            (timed_turns program)) (2 ^ 65) g) (sym lives)
            (subst (λ (t : Option ℕ). IsSampled curves (sum_until (amount_for curves.by t) (opening program.limits) 0
            (timed_turns program)) (most_of t) passed.live) is.clock
            (by_curves old.live passed.live
            (sampled old.live passed.live (clock-now first.by s old.live.growth is.clock) passes.live (is.live few))))

        each : (place : ℕ) (d : Gauge) (e : Standing) → place < length shown → IsSampled curves
            ((dues_in curves.by (opening program.limits) (timed_turns program)).parts (get_or shown place e).thread)
            (2 ^ 125) (get_or dues.threads.items place d)
        each place d e below =
            let there : place < length old.threads.items = omega (arith, below, is.threads.count, new.threads.count) in
            let thread : thread_of (get_or old.threads.items place d).growth ≡ Some (get_or shown place e).thread =
            is.threads.each place d (omega (arith, below, new.threads.count))
            ∙ ap thread_of (new.threads.each place d e below).growth_is in
            subst (λ (gs : List Gauge). IsSampled curves (sum_until (due_to curves.by (get_or shown place e).thread)
            (opening program.limits) 0 (timed_turns program)) (2 ^ 125) (get_or gs place d)) (sym threads)
            (subst (λ (t : Option ℕ). IsSampled curves (sum_until (amount_for curves.by t) (opening program.limits) 0
            (timed_turns program)) (most_of t) (get_or passed.threads.items place d)) thread
            (by_curves (get_or old.threads.items place d) (get_or passed.threads.items place d)
            (sampled (get_or old.threads.items place d) (get_or passed.threads.items place d) (is.own place d there)
            (passes.threads.each place d there) (is.each few place d there))))

    pub dues-are : (dues : LineDues) → dues.live ≡ passed.live → dues.threads.items ≡ passed.threads.items
        → HaveDues curves (dues_by curves.by program) shown (Some dues)
    dues-are dues lives threads =
        let are : dues_by curves.by program ≡ Some (dues_in curves.by (opening program.limits) (timed_turns program)) =
        rw timed refl in
        subst (λ (o : Option Dues). HaveDues curves o shown (Some dues)) (sym are) (due-all dues lives threads)

-- a program without a duration has none
pub none-due : (program : Program) (curves : Curves) (shown : List Standing) → program.duration ≡ None
    → HaveDues curves (dues_by curves.by program) shown None
none-due program curves shown untimed =
    let are : dues_by curves.by program ≡ None = rw untimed refl in
    subst (λ (o : Option Dues). HaveDues curves o shown None) (sym are) tt

-- ---- shares

pub sums-same : {X Y : Type 0} (f : X → ℕ) (g : Y → ℕ) (xs : List X) (ys : List Y) → length xs ≡ length ys
    → ((place : ℕ) (d : X) (e : Y) → place < length ys → f (get_or xs place d) ≡ g (get_or ys place e))
    → sum_by f xs ≡ sum_by g ys
sums-same f g [] [] count each = refl
sums-same f g [] (y ∷ ys) count each = absurd (omega (arith, count))
sums-same f g (x ∷ xs) [] count each = absurd (omega (arith, count))
sums-same f g (x ∷ xs) (y ∷ ys) count each =
    let rest =
    sums-same f g xs ys (omega (arith, count)) (λ place d e below. each (suc place) d e (omega (arith, below))) in
    let one = each 0 x y (omega arith) in
    sum_by-cons f x xs ∙ (λ i. one i + rest i) ∙ sym (sum_by-cons g y ys)

-- the lines are of the standings' threads, in order
lines-after : (most style least : ℕ) (shown : List Standing)
    → length (lines_after most style least shown) ≡ length shown
lines-after most style least [] = refl
lines-after most style least (s ∷ shown) =
    ap suc (lines-after most (style + 1) (place_of least (height_of most s.ticks) (length shown) + 160) shown)

lines-thread : (most style least : ℕ) (shown : List Standing) (place : ℕ) (d : PlotLine) (e : Standing) → place
    < length shown → (get_or (lines_after most style least shown) place d).thread ≡ (get_or shown place e).thread
lines-thread most style least [] place d e below = absurd (omega (arith, below))
lines-thread most style least (s ∷ shown) zero d e below = refl
lines-thread most style least (s ∷ shown) (suc place) d e below = lines-thread most (style + 1)
    (place_of least (height_of most s.ticks) (length shown) + 160) shown place d e (omega (arith, below))

pub lines-are : (most : ℕ) (shown : List Standing) → AreLinesOf shown (lines_of most shown)
lines-are most shown = record {
  count = lines-after most 0 600 shown;
  each = λ place d below.
      record { there = omega (arith, below, lines-after most 0 600 shown); same = λ e. lines-thread most 0 600 shown place d e (omega (arith, below, lines-after most 0 600 shown)) };
}
