-- A processor's ticks and its idle time add up to its clock.
use Rattle.lot_simulation.proofs.Common.{Action, ActorTurn, BadProcessor, BadTicks, Bool, Clock, Command, Context, Drawn, Due, IsNonDecreasing, IsWithinBounds, List, Moment, None, NotRunning, Option, Program, Refusal, ScriptTrap, Sizes, Some, State, TimedTurn, World, action_of, actor_event, actor_turns, all_due, ap, arith, at_number, at_number-suc, cases_eq, clock_after_console, clock_at, clock_of, clocks_after, clocks_after_console, clocks_after_processor, cond, console_turn, context_of, cost_of, count_in, draw, due_first, earliest, end_of, ended_at, eq-eqb, eqb-false, eqb-true, event_effect, event_of_slice, event_refusal, false, first_failing, following, get_or, idle_to, idle_until, inl, inr, is_bad_processor, is_idle_draw, is_mark, is_none, last_moment, le-leb, le-ltb, length, length-map, length-map-range_with_len, length-replicate, length-set, ltb-false, ltb-true, map, min, moment_after, moment_after_all, nat_lt, ne_eqb, next_due, next_name, number-set_same, number_of, opening_moment, option_map, prefix_len, processor_event, processor_turn, ready_threads, refl, replicate, resolved, set_number, slice, slice_get, slice_get_cases, slice_on, step, step-limits, subst, suc, sum_by-cons, sym, system_turn, take, thread_on, ticks_in, timed_room, timed_turns, total_of, true, turn_due, turns_from, turns_of, unless_refused, unwrap_or, used_there, weight_of, winner, within, woken, zero, ℕ, [], ◌+◌, ◌-◌, ◌<◌, ◌==◌, ◌||◌, ◌∙◌, ◌∷◌, ◌≡◌, ◌≤◌, ◌⊎◌}
use Rattle.lot_machine.specs.declared.event.Event.TheVariants as event
use Rattle.lot_simulation.proofs.OtherTurns.{event_for, event-for, set-kept}
use Rattle.lot_simulation.proofs.TimesRise.{Each, IsTimely, console-clock, each-due, earliest-one, kept, next, next-follows, number-map, opening-timely, there, first-due}

-- ---- what a turn costs its processor is what it has used by its reply

two-pass : (a b : Bool) (x y : Refusal) → a ≡ false → b ≡ false → first_failing ((a, x) ∷ (b, y) ∷ []) ≡ None
two-pass a b x y p q = rw (p, q) refl

three-pass : (a b c : Bool) (x y z : Refusal) → a ≡ false → b ≡ false → c ≡ false
    → first_failing ((a, x) ∷ (b, y) ∷ (c, z) ∷ []) ≡ None
three-pass a b c x y z p q r = rw (p, q, r) refl

draw-free : (s : State) (p d : ℕ) → ticks_in (step s (event.Draw p d)).reply ≡ 0
draw-free s p d = at (event_refusal s (event.Draw p d))
  where
    won : (o : Option Drawn) → winner (map (weight_of s) (ready_threads s.records)) d ≡ o
        → ticks_in (draw s p d).reply ≡ 0
    won None is = rw is refl
    won (Some w) is = rw is refl

    at : (o : Option Refusal) → ticks_in (unless_refused s o (draw s p d)).reply ≡ 0
    at None = won (winner (map (weight_of s) (ready_threads s.records)) d) refl
    at (Some why) = refl

module _ (s : State) (p t : ℕ) (good : is_bad_processor s p ≡ false) (found : thread_on s.records p ≡ Some t) where
  expire-cost : ticks_in (step s (event.Expire p)).reply ≡ s.limits.quantum - used_there s p
  expire-cost =
      let none : event_refusal s (event.Expire p) ≡ None = two-pass (is_bad_processor s p)
      (is_none (thread_on s.records p)) BadProcessor NotRunning good (ap is_none found) in
      ap (λ o. ticks_in (unless_refused s o (event_effect s (event.Expire p))).reply) none

  trap-cost : (ran : ℕ) (action : Action) → used_there s p + ran + 1 ≤ s.limits.quantum
      → ticks_in (step s (event.Trap p ran action)).reply ≡ ran + 1
  trap-cost ran action fits =
      let none : event_refusal s (event.Trap p ran action) ≡ None =
      three-pass (is_bad_processor s p) (is_none (thread_on s.records p))
      (nat_lt s.limits.quantum (used_there s p + ran + 1)) BadProcessor NotRunning BadTicks good (ap is_none found)
      (le-ltb s.limits.quantum (used_there s p + ran + 1) fits) in
      ap (λ o. ticks_in (unless_refused s o (event_effect s (event.Trap p ran action))).reply) none

-- a slice that ends with a trap leaves a tick for it
slice-short : (context : Context) (budget : ℕ) (trap : ScriptTrap) → (slice context budget).trap ≡ Some trap
    → (slice context budget).ticks < budget
slice-short context budget trap = at (nat_lt (min budget (prefix_len is_mark context.rest)) budget) refl
  where
    at : (b : Bool) → nat_lt (min budget (prefix_len is_mark context.rest)) budget ≡ b
        → (slice context budget).trap ≡ Some trap → (slice context budget).ticks < budget
    at true is e = rw is (ltb-true (min budget (prefix_len is_mark context.rest)) budget is)
    at false is e = absurd (let none : None ≡ Some trap = rw is at e in cc)

good-processor : (s : State) (p : ℕ) → 1 ≤ p → p ≤ s.limits.processors → is_bad_processor s p ≡ false
good-processor s p low high =
    let some : (p == 0) ≡ false = ne_eqb p 0 (λ e. omega (arith, low, e)) in
    rw some (le-ltb s.limits.processors p high)

-- what its thread does costs as much as the reply says that it has used
slice-cost : (w : World) (p t : ℕ) → is_bad_processor w.state p ≡ false → thread_on w.state.records p ≡ Some t
    → ticks_in (step w.state (event_of_slice p (number_of w p) (slice_on w p t))).reply
    ≡ cost_of w (event_of_slice p (number_of w p) (slice_on w p t))
slice-cost w p t good found = at (slice_on w p t).trap refl
  where
    at : (o : Option ScriptTrap) → (slice_on w p t).trap ≡ o
        → ticks_in (step w.state (event_of_slice p (number_of w p) (slice_on w p t))).reply
        ≡ cost_of w (event_of_slice p (number_of w p) (slice_on w p t))
    at None is = rw is (expire-cost w.state p t good found)
    at (Some trap) is =
        let s = slice_on w p t in
        let short = slice-short (context_of w t) (w.state.limits.quantum - used_there w.state p) trap is in
        rw is (trap-cost w.state p t good found s.ticks (action_of trap s.end.accumulator (number_of w p))
        (omega (arith, short)))

own-cost : (w : World) (p : ℕ) → 1 ≤ p → p ≤ w.state.limits.processors
    → ticks_in (step w.state (processor_event w p)).reply ≡ cost_of w (processor_event w p)
own-cost w p low high = subst (λ e. ticks_in (step w.state e).reply ≡ cost_of w e) (sym (event-for w p))
    (from (thread_on w.state.records p) refl)
  where
    from : (o : Option ℕ) → thread_on w.state.records p ≡ o
        → ticks_in (step w.state (event_for w p o)).reply ≡ cost_of w (event_for w p o)
    from None is = draw-free w.state p (number_of w p)
    from (Some t) is = slice-cost w p t (good-processor w.state p low high) is

turn-cost : (program : Program) (w : World) (p : ℕ) → 1 ≤ p → p ≤ w.state.limits.processors → p
    ≤ program.limits.processors → count_in ticks_in (system_turn program w p).answer ≡ cost_of w (processor_event w p)
turn-cost program w p low high there =
    let some : (p == 0) ≡ false = ne_eqb p 0 (λ e. omega (arith, low, e)) in
    rw (some, le-leb p program.limits.processors there) (own-cost w p low high)

pub turn-limits : (program : Program) (w : World) (actor : ℕ)
    → (system_turn program w actor).world.state.limits ≡ w.state.limits
turn-limits program w actor = at (actor == 0)
  where
    console : (commands : List Command) → (console_turn program w commands).world.state.limits ≡ w.state.limits
    console [] = refl
    console (c ∷ cs) = step-limits w.state (event.Command (resolved w.tickets (next_name w) c))

    at : (b : Bool) → (cond b (console_turn program w w.commands)
        (processor_turn w actor (actor_event program w actor))).world.state.limits ≡ w.state.limits
    at true = console w.commands
    at false = step-limits w.state (actor_event program w actor)

-- ---- a processor's clock

-- at the start
opening-clock : (n p : ℕ) → 1 ≤ p → p ≤ n → clock_of (replicate n (record { time = 0; waits = false; idle = 0 })) p
    ≡ record { time = 0; waits = false; idle = 0 }
opening-clock n zero low high = absurd (omega (arith, low))
opening-clock n (suc i) low high = ap (λ o. unwrap_or {T = Clock} o (record { time = 0; waits = true; idle = 0 }))
    (at_number-suc (replicate n none) i ∙ some n i high)
  where
    none : Clock
    none = record { time = 0; waits = false; idle = 0 }

    some : (n i : ℕ) → suc i ≤ n → slice_get (replicate n none) i ≡ Some none
    some zero i high = absurd (omega (arith, high))
    some (suc n) zero high = refl
    some (suc n) (suc i) high = some n i (omega (arith, high))

have-clock : (clocks : List Clock) (p : ℕ) → 1 ≤ p → p ≤ length clocks → (c : Clock) × (at_number clocks p ≡ Some c)
have-clock clocks zero low high = absurd (omega (arith, low))
have-clock clocks (suc i) low high = from (slice_get_cases clocks i).1
  where
    from : ((x : Clock) × (i < length clocks) × (slice_get clocks i ≡ Some x) × (get_or clocks i x ≡ x))
        ⊎ ((length clocks ≤ i) × (slice_get clocks i ≡ None)) → (c : Clock) × (at_number clocks (suc i) ≡ Some c)
    from (inl (x, _, here, _)) = (x, at_number-suc clocks i ∙ here)
    from (inr (past, _)) = absurd (omega (arith, past, high))

-- the clock stands, or has been idle until now
abbrev Stands : ℕ → Clock → Clock → Type 0
Stands time before after = (after ≡ idle_to time before) ⊎ (after ≡ before)

woken-stands : (time : ℕ) (clock : Clock) → Stands time clock (woken time clock)
woken-stands time clock = at clock.waits
  where
    at : (b : Bool) → Stands time clock (cond b (idle_to time clock) clock)
    at true = inl refl
    at false = inr refl

console-stands : (s : State) (time : ℕ) (clocks : List Clock) (p : ℕ)
    → Stands time (clock_of clocks p) (clock_after_console s time clocks p)
console-stands s time clocks p = at ((clock_of clocks p).waits || is_none (thread_on s.records p))
  where
    at : (b : Bool) → Stands time (clock_of clocks p) (cond b (idle_to time (clock_of clocks p)) (clock_of clocks p))
    at true = inl refl
    at false = inr refl

-- it is at its own turn's time and was idle no longer, or it was idle or stands
abbrev Moves : ℕ → Due → Clock → Clock → Type 0
Moves p due before after = ((due.actor ≡ p) × (after.time ≡ due.time) × (after.idle ≡ before.idle))
    ⊎ (¬ (due.actor ≡ p) × Stands due.time before after)

module _ (clocks : List Clock) (p : ℕ) (low : 1 ≤ p) (c : Clock) (is : at_number clocks p ≡ Some c) where
  all-woken : (time : ℕ) → at_number (map (woken time) clocks) p ≡ Some (woken time c)
  all-woken time = number-map (woken time) clocks p ∙ ap (option_map (woken time)) is

  -- after one clock of these is set
  set-moves : (some : List Clock) (here : Clock) (due : Due) (new : Clock) → 1 ≤ due.actor
      → at_number some p ≡ Some here → Stands due.time c here
      → new.time ≡ due.time → new.idle ≡ (clock_of clocks due.actor).idle
      → Moves p due c (clock_of (set_number some due.actor new) p)
  set-moves some here due new positive here_is kept time idle = from (cases_eq due.actor p)
    where
      from : (due.actor ≡ p) ⊎ (due.actor ≡ p → ⊥) → Moves p due c (clock_of (set_number some due.actor new) p)
      from (inl same) =
          let now : clock_of (set_number some due.actor new) p ≡ new =
          ap (λ a. clock_of (set_number some a new) p) same
          ∙ there (set_number some p new) p new (number-set_same some p new here here_is) in
          inl (same, ap (λ (x : Clock). x.time) now ∙ time, ap (λ (x : Clock). x.idle) now ∙ idle ∙ ap (λ a. (clock_of clocks a).idle) same ∙ ap (λ (x : Clock). x.idle) (there clocks p c is))
      from (inr other) =
          let apart : ¬ (p ≡ suc (due.actor - 1)) = λ e. other (omega (arith, e, positive)) in
          let now : clock_of (set_number some due.actor new) p ≡ here =
          there (set_number some due.actor new) p here (set-kept some due.actor p new apart ∙ here_is) in
          inr (other, stays now kept)
        where
          stays : clock_of (set_number some due.actor new) p ≡ here → Stands due.time c here
              → Stands due.time c (clock_of (set_number some due.actor new) p)
          stays now (inl idle) = inl (now ∙ idle)
          stays now (inr stood) = inr (now ∙ stood)

  processor-moves : (due : Due) (idle : Bool) → 1 ≤ due.actor
      → Moves p due c (clock_of (clocks_after_processor clocks due idle) p)
  processor-moves due true positive = set-moves clocks c due
      (record { time = due.time; waits = true; idle = (clock_of clocks due.actor).idle }) positive is
      (inr refl) refl refl
  processor-moves due false positive =
      set-moves (map (woken due.time) clocks) (woken due.time c) due
      (record { time = due.time; waits = false; idle = (clock_of clocks due.actor).idle }) positive (all-woken due.time)
      (woken-stands due.time c) refl refl

  console-moves : (s : State) (due : Due) → ¬ (due.actor ≡ p) → p ≤ length clocks
      → Moves p due c (clock_of (clocks_after_console s due.time clocks) p)
  console-moves s due other high =
      let now : clock_of (clocks_after_console s due.time clocks) p ≡ clock_after_console s due.time clocks p =
      there (clocks_after_console s due.time clocks) p (clock_after_console s due.time clocks p)
      (console-clock s due.time clocks p low high) in
      inr (other, subst (λ x. Stands due.time c x) (sym now) (subst (λ x. Stands due.time x (clock_after_console s due.time clocks p)) (there clocks p c is) (console-stands s due.time clocks p)))

  clock-moves : (s : State) (due : Due) (idle : Bool) → p ≤ length clocks
      → Moves p due c (clock_of (clocks_after s clocks due idle) p)
  clock-moves s due idle high = at (due.actor == 0) refl
    where
      at : (b : Bool) → (due.actor == 0) ≡ b → Moves p due c
          (clock_of (cond b (clocks_after_console s due.time clocks) (clocks_after_processor clocks due idle)) p)
      at true console = console-moves s due (λ same. omega (arith, low, same, eqb-true due.actor 0 console)) high
      at false other = processor-moves due idle (from (eqb-false due.actor 0 other))
        where
          from : ¬ (due.actor ≡ 0) → 1 ≤ due.actor
          from apart = omega (arith, apart)

clocks-length : (s : State) (clocks : List Clock) (due : Due) (idle : Bool)
    → length (clocks_after s clocks due idle) ≡ length clocks
clocks-length s clocks due idle = at (due.actor == 0) idle
  where
    at : (b idle : Bool) → length
        (cond b (clocks_after_console s due.time clocks) (clocks_after_processor clocks due idle)) ≡ length clocks
    at true idle = length-map-range_with_len (clock_after_console s due.time clocks) 1 (length clocks)
    at false true = length-set clocks (due.actor - 1) _
    at false false = length-set (map (woken due.time) clocks) (due.actor - 1) _ ∙ length-map clocks (woken due.time)

-- ---- moments

-- one turn more of some actor
own-cons : (p : ℕ) (turn : ActorTurn) (turns : List ActorTurn) → total_of ticks_in (turns_of p (turn ∷ turns))
    ≡ cond (turn.actor == p) (count_in ticks_in turn.answer) 0 + total_of ticks_in (turns_of p turns)
own-cons p turn turns = at (turn.actor == p)
  where
    at : (b : Bool) → total_of ticks_in (cond b (turn ∷ turns_of p turns) (turns_of p turns))
        ≡ cond b (count_in ticks_in turn.answer) 0 + total_of ticks_in (turns_of p turns)
    at true = sum_by-cons (λ (t : ActorTurn). count_in ticks_in t.answer) turn (turns_of p turns)
    at false = omega arith

-- a turn within the end
within-end : (end : ℕ) (o : Option Due) (due : Due) → within end o ≡ Some due → due.time ≤ end
within-end end None due e = cc
within-end end (Some x) due e = at (nat_lt end x.time) refl e
  where
    at : (b : Bool) → nat_lt end x.time ≡ b → cond b None (Some x) ≡ Some due → due.time ≤ end
    at true is some = cc
    at false is some = let same : x ≡ due = cc in omega (arith, ltb-false end x.time is, ap (λ (d : Due). d.time) same)

module _ (program : Program) (p : ℕ) (low : 1 ≤ p) (high : p ≤ program.limits.processors) where
  -- At this moment the processor has used so many ticks, which with those in which it was idle are its clock.
  pub record IsClocked (ticks : ℕ) (m : Moment) : Type 0 where
    pub timely : IsTimely program m
    pub limits : m.world.state.limits ≡ program.limits
    pub count : length m.clocks ≡ program.limits.processors
    pub sum : ticks + (clock_of m.clocks p).idle ≡ (clock_of m.clocks p).time
    pub past : (clock_of m.clocks p).time ≤ m.time
    pub within : m.time ≤ end_of program

  -- its own turn is done when its clock and what the turn costs say
  abbrev IsOwn : Moment → Due → Type 0
  IsOwn m due = due.actor ≡ p → due.time ≡ (clock_of m.clocks p).time + cost_of m.world (processor_event m.world p)

  console-own : (m : Moment) (times : List ℕ)
      → Each (IsOwn m) (map (λ time. record { time = time; actor = 0 }) (take 1 times))
  console-own m [] = tt
  console-own m (t ∷ ts) = ((λ same. absurd (omega (arith, low, same))), tt)

  own-time : (m : Moment) (due : Due) → earliest (all_due program m) ≡ Some due → IsOwn m due
  own-time m due first =
      earliest-one (IsOwn m) (all_due program m) due
      (each-due (IsOwn m) program m (console-own m m.times)
      (λ t time above below _ same. absurd (omega (arith, high, above, same)))
      (λ q above below _ same. ap (λ k. (clock_of m.clocks k).time + cost_of m.world (processor_event m.world k)) same))
      first

  module _ (ticks : ℕ) (m : Moment) (is : IsClocked ticks m) (due : Due) (first : next_due program m ≡ Some due) where
    soonest : earliest (all_due program m) ≡ Some due
    soonest = first-due program m due first

    -- the ticks that the processor has used in this turn
    abbrev used : ℕ
    used = cond (due.actor == p) (count_in ticks_in (system_turn program m.world due.actor).answer) 0

    own-used : due.actor ≡ p → used ≡ cost_of m.world (processor_event m.world p)
    own-used same =
        let there : p ≤ m.world.state.limits.processors =
        omega (arith, high, ap (λ (l : Sizes). l.processors) is.limits) in
        ap (λ b. cond b (count_in ticks_in (system_turn program m.world due.actor).answer) 0) (eq-eqb due.actor p same)
        ∙ ap (λ a. count_in ticks_in (system_turn program m.world a).answer) same
        ∙ turn-cost program m.world p low there high

    other-used : ¬ (due.actor ≡ p) → used ≡ 0
    other-used other =
        ap (λ b. cond b (count_in ticks_in (system_turn program m.world due.actor).answer) 0) (ne_eqb due.actor p other)

    later : m.time ≤ due.time
    later = (next program m is.timely due soonest).0

    abbrev IsRight : Clock → Type 0
    IsRight clock = (ticks + used + clock.idle ≡ clock.time) × (clock.time ≤ due.time)

    -- from a clock that stands, or that was idle
    stood : (clock : Clock) → ¬ (due.actor ≡ p) → clock ≡ clock_of m.clocks p → IsRight clock
    stood clock other same =
        let time = ap (λ (c : Clock). c.time) same in
        let idle = ap (λ (c : Clock). c.idle) same in
        (omega (arith, other-used other, time, idle, is.sum), omega (arith, time, is.past, later))

    idled : ¬ (due.actor ≡ p) → IsRight (idle_to due.time (clock_of m.clocks p))
    idled other = (omega (arith, other-used other, is.sum, is.past, later), omega arith)

    right : (clock : Clock) → Moves p due (clock_of m.clocks p) clock → IsRight clock
    right clock (inl (same, time, idle)) =
        (omega (arith, own-used same, own-time m due soonest same, time, idle, is.sum), omega (arith, time))
    right clock (inr (other, inl now)) = subst IsRight (sym now) (idled other)
    right clock (inr (other, inr now)) = stood clock other now

    abbrev after : State
    after = (system_turn program m.world due.actor).world.state

    abbrev idle : Bool
    idle = is_idle_draw (system_turn program m.world due.actor).answer

    moves : Moves p due (clock_of m.clocks p) (clock_of (clocks_after after m.clocks due idle) p)
    moves =
        let here = have-clock m.clocks p low (omega (arith, high, is.count)) in
        subst (λ c. Moves p due c (clock_of (clocks_after after m.clocks due idle) p))
        (sym (there m.clocks p here.0 here.1))
        (clock-moves m.clocks p low here.0 here.1 after due idle (omega (arith, high, is.count)))

    clocked-after : IsClocked (ticks + used) (moment_after m (turn_due program m due))
    clocked-after =
        let now = right (clock_of (clocks_after after m.clocks due idle) p) moves in
        record {
          timely = kept program m is.timely due soonest;
          limits = turn-limits program m.world due.actor ∙ is.limits;
          count = clocks-length after m.clocks due idle ∙ is.count;
          sum = now.0;
          past = now.1;
          within = within-end (end_of program) (earliest (all_due program m)) due (next-follows program m due first);
        }

  clocked-all : (room ticks : ℕ) (m : Moment) → IsClocked ticks m
      → IsClocked (ticks + total_of ticks_in (turns_of p (actor_turns (turns_from program room m))))
      (moment_after_all m (turns_from program room m))
  clocked-all zero ticks m is = subst (λ n. IsClocked n m) (omega arith) is
  clocked-all (suc room) ticks m is =
      at (next_due program m) refl (λ more done. clocked-all room more (moment_after m done))
    where
      IsAfter : ℕ → Moment → List TimedTurn → Type 0
      IsAfter n from turns =
          IsClocked (n + total_of ticks_in (turns_of p (actor_turns turns))) (moment_after_all from turns)

      at : (o : Option Due) → next_due program m ≡ o
          → ((more : ℕ) (done : TimedTurn) → IsClocked more (moment_after m done)
          → IsAfter more (moment_after m done) (turns_from program room (moment_after m done)))
          → IsAfter ticks m (due_first program m (λ done. turns_from program room (moment_after m done)) o)
      at None first later = subst (λ n. IsClocked n m) (omega arith) is
      at (Some due) first later =
          let done = turn_due program m due in
          let turns = turns_from program room (moment_after m done) in
          let turn : ActorTurn =
          record { actor = due.actor; answer = (system_turn program m.world due.actor).answer } in
          let used = cond (due.actor == p) (count_in ticks_in (system_turn program m.world due.actor).answer) 0 in
          let more : ticks + used + total_of ticks_in (turns_of p (actor_turns turns)) ≡ ticks + total_of ticks_in
          (turns_of p (turn ∷ actor_turns turns)) = omega (arith, own-cons p turn (actor_turns turns)) in
          subst (λ n. IsClocked n (moment_after_all (moment_after m done) turns)) more
          (later (ticks + used) done (clocked-after ticks m is due first))

  module _ (bounds : IsWithinBounds program.limits) (sorted : IsNonDecreasing program.times) where
    opening-clocked : IsClocked 0 (opening_moment program)
    opening-clocked =
        let none : Clock = record { time = 0; waits = false; idle = 0 } in
        let here = opening-clock program.limits.processors p low high in
        record {
          timely = opening-timely program bounds sorted;
          limits = refl;
          count = length-replicate program.limits.processors none;
          sum = omega (arith, ap (λ (c : Clock). c.idle) here, ap (λ (c : Clock). c.time) here);
          past = omega (arith, ap (λ (c : Clock). c.time) here);
          within = omega arith;
        }

    last : IsClocked (total_of ticks_in (turns_of p (actor_turns (timed_turns program)))) (last_moment program)
    last = subst (λ n. IsClocked n (last_moment program)) (omega arith)
        (clocked-all timed_room 0 (opening_moment program) opening-clocked)

    past-end : (clock_of (last_moment program).clocks p).time ≤ ended_at program (last_moment program)
    past-end = at (following program (last_moment program)) refl
      where
        at : (o : Option Due) → following program (last_moment program) ≡ o
            → (clock_of (last_moment program).clocks p).time ≤ ended_at program (last_moment program)
        at None is = rw is (omega (arith, last.past, last.within))
        at (Some due) is = rw is last.past

    clock-within : (end : ℕ) (clock : Clock) → clock.time ≤ end → clock_at end clock ≤ end
    clock-within end clock past = at clock.waits
      where
        at : (b : Bool) → cond b end clock.time ≤ end
        at true = omega arith
        at false = past

    clock-sum : (ticks end : ℕ) (clock : Clock) → ticks + clock.idle ≡ clock.time → clock.time ≤ end
        → ticks + idle_until end clock ≡ clock_at end clock
    clock-sum ticks end clock sum past = at clock.waits
      where
        at : (b : Bool) → ticks + cond b (clock.idle + (end - clock.time)) clock.idle ≡ cond b end clock.time
        at true = omega (arith, sum, past)
        at false = sum

    pub clocks-add_up : total_of ticks_in (turns_of p (actor_turns (timed_turns program)))
        + idle_until (ended_at program (last_moment program)) (clock_of (last_moment program).clocks p)
        ≡ clock_at (ended_at program (last_moment program)) (clock_of (last_moment program).clocks p)
    clocks-add_up =
        clock-sum (total_of ticks_in (turns_of p (actor_turns (timed_turns program))))
        (ended_at program (last_moment program)) (clock_of (last_moment program).clocks p) last.sum past-end

    pub clocks-within : clock_at (ended_at program (last_moment program))
        (clock_of (last_moment program).clocks p) ≤ ended_at program (last_moment program)
    clocks-within =
        clock-within (ended_at program (last_moment program)) (clock_of (last_moment program).clocks p) past-end
