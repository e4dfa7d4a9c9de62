-- In the order of time no turn comes before the one before it.
use Rattle.lot_simulation.proofs.Common.{Bool, Clock, Due, IsNonDecreasing, IsWithinBounds, List, Moment, None, Option, Program, ScriptTrap, Sleep, Sleeper, Some, State, TimedTurn, World, alarm_due, alarms_after, alarms_asleep, all_due, ap, arith, at_number, at_number-suc, cases_eq, clock_after_console, clock_of, clocks_after, clocks_after_console, clocks_after_processor, cond, console_due, cost_of, drop, due_first, earliest, end_of, eqb-false, eqb-true, false, flat_map, following, found-runs, get_or, get_or-map-range_with_len, idle_to, inl, inr, is_idle_draw, is_none, is_stopped, leb-false, leb-true, length, length-map-range_with_len, map, moment_after, nat_le, nat_lt, next_due, number-set, number-set_same, number-within, numbered, numbers, opening-order, opening_moment, option_and_then, option_map, option_map_or, processor_due, processor_event, processors_due, range_with_len, refl, set_alarm, set_number, sleeper_by, sleeper_on, slice_get-map, slice_on, some-injective, sooner, subst, suc, sym, system_turn, take, thread_on, timed_room, timed_turns, timer_due, true, turn_due, turns_from, unwrap_or, within, woken, zero, ℕ, [], ◌++◌, ◌+◌, ◌-◌, ◌<◌, ◌==◌, ◌||◌, ◌∙◌, ◌∷◌, ◌≡◌, ◌≤◌, ◌⊎◌}
use Rattle.lot_machine.specs.declared.record.Status.TheVariants as status
use Rattle.lot_simulation.proofs.DrawnThreads.{number-some}
use Rattle.lot_simulation.proofs.OtherTurns.{IsOrderly, IsSpared, turn-grows, turn-keeps}

-- ---- times that rise

-- none is less than the one before it, and the first isn't less than this
abbrev pub Rises : ℕ → List ℕ → Type 0
Rises low [] = Unit {0}
Rises low (x ∷ xs) = (low ≤ x) × Rises x xs

rises-within : (low : ℕ) (xs : List ℕ) → Rises low xs → (j d : ℕ) → j < length xs → low ≤ get_or xs j d
rises-within low [] rises j d below = absurd (omega (arith, below))
rises-within low (x ∷ xs) rises zero d below = rises.0
rises-within low (x ∷ xs) rises (suc j) d below =
    omega (arith, rises.0, rises-within x xs rises.1 j d (omega (arith, below)))

rises-sorted : (low : ℕ) (xs : List ℕ) → Rises low xs → IsNonDecreasing xs
rises-sorted low [] rises i j d le below = absurd (omega (arith, below))
rises-sorted low (x ∷ xs) rises zero zero d le below = omega arith
rises-sorted low (x ∷ xs) rises zero (suc j) d le below = rises-within x xs rises.1 j d (omega (arith, below))
rises-sorted low (x ∷ xs) rises (suc i) zero d le below = absurd (omega (arith, le))
rises-sorted low (x ∷ xs) rises (suc i) (suc j) d le below =
    rises-sorted x xs rises.1 i j d (omega (arith, le)) (omega (arith, below))

sorted-rises : (low x : ℕ) (xs : List ℕ) → low ≤ x → IsNonDecreasing (x ∷ xs) → Rises low (x ∷ xs)
sorted-rises low x [] first sorted = (first, tt)
sorted-rises low x (y ∷ ys) first sorted =
    (first, sorted-rises x y ys (sorted 0 1 0 (omega arith) (omega arith)) (λ i j d le below. sorted (suc i) (suc j) d (omega (arith, le)) (omega (arith, below))))

sorted-from : (xs : List ℕ) → IsNonDecreasing xs → Rises 0 xs
sorted-from [] sorted = tt
sorted-from (x ∷ xs) sorted = sorted-rises 0 x xs (omega arith) sorted

-- ---- each of some turns

-- it holds of each
abbrev pub Each : (Due → Type 0) → List Due → Type 0
Each P [] = Unit {0}
Each P (due ∷ others) = P due × Each P others

module _ (P : Due → Type 0) where
  pub each-append : (xs ys : List Due) → Each P xs → Each P ys → Each P (xs ++ ys)
  each-append [] ys first second = second
  each-append (x ∷ xs) ys first second = (first.0, each-append xs ys first.1 second)

  each-first : (xs ys : List Due) → Each P (xs ++ ys) → Each P xs
  each-first [] ys all = tt
  each-first (x ∷ xs) ys all = (all.0, each-first xs ys all.1)

  each-second : (xs ys : List Due) → Each P (xs ++ ys) → Each P ys
  each-second [] ys all = all
  each-second (x ∷ xs) ys all = each-second xs ys all.1

  -- of the turns of each number of a range
  pub each-range : (f : ℕ → List Due) (a n : ℕ) → ((p : ℕ) → a ≤ p → p < a + n → Each P (f p))
      → Each P (flat_map f (range_with_len a n))
  each-range f a zero each = tt
  each-range f a (suc n) each =
      each-append (f a) (flat_map f (range_with_len (a + 1) n)) (each a (omega arith) (omega arith))
      (each-range f (a + 1) n (λ p low high. each p (omega (arith, low)) (omega (arith, high))))

  range-each : (f : ℕ → List Due) (a n p : ℕ) → Each P (flat_map f (range_with_len a n)) → a ≤ p → p < a + n
      → Each P (f p)
  range-each f a zero p all low high = absurd (omega (arith, low, high))
  range-each f a (suc n) p all low high =
      from (λ more. range-each f (a + 1) n p (each-second (f a) (flat_map f (range_with_len (a + 1) n)) all) more
      (omega (arith, high))) (cases_eq a p)
    where
      from : (a + 1 ≤ p → Each P (f p)) → (a ≡ p) ⊎ (a ≡ p → ⊥) → Each P (f p)
      from later (inl same) =
          subst (λ k. Each P (f k)) same (each-first (f a) (flat_map f (range_with_len (a + 1) n)) all)
      from later (inr other) = later (omega (arith, low, other))

  -- what holds of each holds of the earliest
  pub earliest-one : (dues : List Due) (due : Due) → Each P dues → earliest dues ≡ Some due → P due
  earliest-one [] due all e = cc
  earliest-one (x ∷ xs) due all e = subst P (some-injective (sooner x (earliest xs)) due e)
      (from (λ y is. earliest-one xs y all.1 is) (earliest xs) refl)
    where
      from : ((y : Due) → earliest xs ≡ Some y → P y) → (o : Option Due) → earliest xs ≡ o → P (sooner x o)
      from later None is = all.0
      from later (Some y) is = at (nat_le x.time y.time) (later y is)
        where
          at : (b : Bool) → P y → P (cond b x y)
          at true other = all.0
          at false other = other

  -- a processor's turn, unless it waits
  pub due-of : (m : Moment) (p : ℕ) → Each P (processor_due m p) → (clock_of m.clocks p).waits ≡ false
      → P (record { time = (clock_of m.clocks p).time + cost_of m.world (processor_event m.world p); actor = p })
  due-of m p all waits = at (clock_of m.clocks p).waits all waits
    where
      at : (b : Bool) → Each P (cond b []
          (record { time = (clock_of m.clocks p).time + cost_of m.world (processor_event m.world p); actor = p } ∷ []))
          → b ≡ false
          → P (record { time = (clock_of m.clocks p).time + cost_of m.world (processor_event m.world p); actor = p })
      at true is e = cc
      at false is e = is.0

  pub of-due : (m : Moment) (p : ℕ) → ((clock_of m.clocks p).waits ≡ false
      → P (record { time = (clock_of m.clocks p).time + cost_of m.world (processor_event m.world p); actor = p }))
      → Each P (processor_due m p)
  of-due m p is = at (clock_of m.clocks p).waits is
    where
      at : (b : Bool) → (b ≡ false
          → P (record { time = (clock_of m.clocks p).time + cost_of m.world (processor_event m.world p); actor = p }))
          → Each P (cond b []
          (record { time = (clock_of m.clocks p).time + cost_of m.world (processor_event m.world p); actor = p } ∷ []))
      at true h = tt
      at false h = (h refl, tt)

  -- the timer's turn for a thread, if that sleeps
  pub alarm-of : (program : Program) (alarms : ℕ → Option ℕ) (t time : ℕ) → Each P (alarm_due program alarms t)
      → alarms t ≡ Some time → P (record { time = time; actor = program.limits.processors + t })
  alarm-of program alarms t time all is = at (alarms t) all is
    where
      at : (o : Option ℕ)
          → Each P (option_map_or (λ time. record { time = time; actor = program.limits.processors + t } ∷ []) o [])
          → o ≡ Some time → P (record { time = time; actor = program.limits.processors + t })
      at None all is = cc
      at (Some other) all is = let same : other ≡ time = cc in
          subst (λ k. P (record { time = k; actor = program.limits.processors + t })) same all.0

  pub of-alarm : (program : Program) (alarms : ℕ → Option ℕ) (t : ℕ)
      → ((time : ℕ) → alarms t ≡ Some time → P (record { time = time; actor = program.limits.processors + t }))
      → Each P (alarm_due program alarms t)
  of-alarm program alarms t is = at (alarms t) is
    where
      at : (o : Option ℕ)
          → ((time : ℕ) → o ≡ Some time → P (record { time = time; actor = program.limits.processors + t }))
          → Each P (option_map_or (λ time. record { time = time; actor = program.limits.processors + t } ∷ []) o [])
      at None h = tt
      at (Some time) h = (h time refl, tt)

  -- of all turns that may come next
  pub each-due : (program : Program) (m : Moment) → Each P (console_due m)
      → ((t time : ℕ) → 1 ≤ t → t < 1 + length m.world.state.records → m.alarms t ≡ Some time
      → P (record { time = time; actor = program.limits.processors + t }))
      → ((p : ℕ) → 1 ≤ p → p < 1 + program.limits.processors → (clock_of m.clocks p).waits ≡ false
      → P (record { time = (clock_of m.clocks p).time + cost_of m.world (processor_event m.world p); actor = p }))
      → Each P (all_due program m)
  each-due program m console alarms processors =
      each-append (console_due m) (timer_due program m ++ processors_due program m) console
      (each-append (timer_due program m) (processors_due program m)
      (each-range (alarm_due program m.alarms) 1 (length m.world.state.records)
      (λ t low high. of-alarm program m.alarms t (λ time is. alarms t time low high is)))
      (each-range (processor_due m) 1 program.limits.processors
      (λ p low high. of-due m p (λ runs. processors p low high runs))))

  pub console-each : (program : Program) (m : Moment) → Each P (all_due program m) → Each P (console_due m)
  console-each program m all = each-first (console_due m) (timer_due program m ++ processors_due program m) all

  pub alarm-each : (program : Program) (m : Moment) (t time : ℕ) → Each P (all_due program m) → 1 ≤ t
      → t < 1 + length m.world.state.records → m.alarms t ≡ Some time
      → P (record { time = time; actor = program.limits.processors + t })
  alarm-each program m t time all low high is =
      alarm-of program m.alarms t time
      (range-each (alarm_due program m.alarms) 1 (length m.world.state.records) t
      (each-first (timer_due program m) (processors_due program m)
      (each-second (console_due m) (timer_due program m ++ processors_due program m) all)) low high) is

  pub processor-each : (program : Program) (m : Moment) (p : ℕ) → Each P (all_due program m) → 1 ≤ p
      → p < 1 + program.limits.processors → (clock_of m.clocks p).waits ≡ false
      → P (record { time = (clock_of m.clocks p).time + cost_of m.world (processor_event m.world p); actor = p })
  processor-each program m p all low high runs =
      due-of m p
      (range-each (processor_due m) 1 program.limits.processors p
      (each-second (timer_due program m) (processors_due program m)
      (each-second (console_due m) (timer_due program m ++ processors_due program m) all)) low high) runs

  weaker : (Q : Due → Type 0) → ((due : Due) → P due → Q due) → (dues : List Due) → Each P dues → Each Q dues
  weaker Q from [] all = tt
  weaker Q from (due ∷ others) all = (from due all.0, weaker Q from others all.1)

-- the turn isn't done later than the other
abbrev pub IsBy : Due → Due → Type 0
IsBy due other = due.time ≤ other.time

-- none is done before the earliest
earliest-least : (dues : List Due) (due : Due) → earliest dues ≡ Some due → Each (IsBy due) dues
earliest-least [] due e = tt
earliest-least (x ∷ xs) due e = subst (λ d. Each (IsBy d) (x ∷ xs)) (some-injective (sooner x (earliest xs)) due e)
    (from (λ y is. earliest-least xs y is) (earliest xs) refl)
  where
    nothing : (ys : List Due) → earliest ys ≡ None → Each (IsBy x) ys
    nothing [] none = tt
    nothing (y ∷ ys) none = cc

    from : ((y : Due) → earliest xs ≡ Some y → Each (IsBy y) xs) → (o : Option Due) → earliest xs ≡ o
        → Each (IsBy (sooner x o)) (x ∷ xs)
    from later None is = (omega arith, nothing xs is)
    from later (Some y) is = at (nat_le x.time y.time) refl (later y is)
      where
        at : (b : Bool) → nat_le x.time y.time ≡ b → Each (IsBy y) xs → Each (IsBy (cond b x y)) (x ∷ xs)
        at true le rest =
            (omega arith, weaker (IsBy y) (IsBy x) (λ d later. omega (arith, leb-true x.time y.time le, later)) xs rest)
        at false gt rest = (omega (arith, leb-false x.time y.time gt), rest)

-- ---- clocks

-- a processor that isn't there waits
missing : (clocks : List Clock) (p : ℕ) → at_number clocks p ≡ None → (clock_of clocks p).waits ≡ true
missing clocks p none = ap (λ o. (unwrap_or {T = Clock} o (record { time = 0; waits = true; idle = 0 })).waits) none

pub there : (clocks : List Clock) (p : ℕ) (c : Clock) → at_number clocks p ≡ Some c → clock_of clocks p ≡ c
there clocks p c is = ap (λ o. unwrap_or o (record { time = 0; waits = true; idle = 0 })) is

pub number-map : (f : Clock → Clock) (clocks : List Clock) (p : ℕ)
    → at_number (map f clocks) p ≡ option_map f (at_number clocks p)
number-map f clocks zero = refl
number-map f clocks (suc i) = at_number-suc (map f clocks) i ∙ slice_get-map f clocks i
    ∙ ap (option_map f) (sym (at_number-suc clocks i))

-- a clock is as it was before, or the time has come to it
abbrev IsKept : ℕ → Clock → Clock → Type 0
IsKept time before after = (time ≤ after.time) ⊎ (after ≡ before)

-- when all are woken
woken-kept : (time : ℕ) (clocks : List Clock) (p : ℕ) → (clock_of (map (woken time) clocks) p).waits ≡ false
    → IsKept time (clock_of clocks p) (clock_of (map (woken time) clocks) p)
woken-kept time clocks p runs = from (at_number clocks p) refl
  where
    from : (o : Option Clock) → at_number clocks p ≡ o
        → IsKept time (clock_of clocks p) (clock_of (map (woken time) clocks) p)
    from None is =
        let waits =
        missing (map (woken time) clocks) p (number-map (woken time) clocks p ∙ ap (option_map (woken time)) is) in
        let impossible : true ≡ false = sym waits ∙ runs in cc
    from (Some c) is = at c.waits refl
      where
        new : clock_of (map (woken time) clocks) p ≡ woken time c
        new = there (map (woken time) clocks) p (woken time c)
            (number-map (woken time) clocks p ∙ ap (option_map (woken time)) is)

        at : (b : Bool) → c.waits ≡ b → IsKept time (clock_of clocks p) (clock_of (map (woken time) clocks) p)
        at true waits =
            let now : woken time c ≡ record { time = time; waits = false; idle = c.idle + (time - c.time) } =
            rw waits refl in
            inl (omega (arith, ap (λ (x : Clock). x.time) (new ∙ now)))
        at false waits = let now : woken time c ≡ c = rw waits refl in inr (new ∙ now ∙ sym (there clocks p c is))

-- the acting processor's own clock has the time of its turn, and another's is as in the list
set-own : (clocks : List Clock) (actor p : ℕ) (new : Clock) → 1 ≤ actor
    → (clock_of (set_number clocks actor new) p).waits ≡ false
    → ((p ≡ actor) × (clock_of (set_number clocks actor new) p ≡ new))
    ⊎ (¬ (p ≡ actor) × (clock_of (set_number clocks actor new) p ≡ clock_of clocks p))
set-own clocks actor p new positive runs = from (cases_eq p actor)
  where
    place : suc (actor - 1) ≡ actor
    place = omega (arith, positive)

    other : ¬ (p ≡ actor) → (at_number (set_number clocks actor new) p ≡ at_number clocks p)
        ⊎ ((p ≡ suc (actor - 1)) × (at_number (set_number clocks actor new) p ≡ Some new))
        → ((p ≡ actor) × (clock_of (set_number clocks actor new) p ≡ new))
        ⊎ (¬ (p ≡ actor) × (clock_of (set_number clocks actor new) p ≡ clock_of clocks p))
    other differs (inl same) = inr (differs, ap (λ o. unwrap_or o (record { time = 0; waits = true; idle = 0 })) same)
    other differs (inr (at, _)) = absurd (differs (at ∙ place))

    own : p ≡ actor → (o : Option Clock) → at_number clocks p ≡ o
        → (at_number (set_number clocks actor new) p ≡ at_number clocks p)
        ⊎ ((p ≡ suc (actor - 1)) × (at_number (set_number clocks actor new) p ≡ Some new))
        → ((p ≡ actor) × (clock_of (set_number clocks actor new) p ≡ new))
        ⊎ (¬ (p ≡ actor) × (clock_of (set_number clocks actor new) p ≡ clock_of clocks p))
    own same (Some c) is _ =
        let now = number-set_same clocks actor new c (ap (at_number clocks) (sym same) ∙ is) in
        inl (same, there (set_number clocks actor new) p new (ap (at_number (set_number clocks actor new)) same ∙ now))
    own same None is (inl kept) = let waits = missing (set_number clocks actor new) p (kept ∙ is) in
        let impossible : true ≡ false = sym waits ∙ runs in cc
    own same None is (inr (_, now)) = inl (same, there (set_number clocks actor new) p new now)

    from : (p ≡ actor) ⊎ (p ≡ actor → ⊥) → ((p ≡ actor) × (clock_of (set_number clocks actor new) p ≡ new))
        ⊎ (¬ (p ≡ actor) × (clock_of (set_number clocks actor new) p ≡ clock_of clocks p))
    from (inl same) = own same (at_number clocks p) refl (number-set clocks actor new p)
    from (inr differs) = other differs (number-set clocks actor new p)

-- After a turn the time has come to a clock that doesn't wait, or it is another's and as before. It has come to those of
-- all whose threads the console's turn killed.
abbrev IsAfter : State → Due → ℕ → Clock → Clock → Type 0
IsAfter s due p before after = (due.time ≤ after.time) ⊎ (¬ (p ≡ due.actor) × (after ≡ before) × IsSpared due.actor s p)

-- after the acting processor's own clock is set to the turn's time
own-after : (s : State) (clocks : List Clock) (due : Due) (p : ℕ) (new : Clock) → 1 ≤ due.actor → new.time ≡ due.time
    → (clock_of (set_number clocks due.actor new) p).waits ≡ false
    → IsAfter s due p (clock_of clocks p) (clock_of (set_number clocks due.actor new) p)
own-after s clocks due p new positive time runs = from (set-own clocks due.actor p new positive runs)
  where
    from : ((p ≡ due.actor) × (clock_of (set_number clocks due.actor new) p ≡ new))
        ⊎ (¬ (p ≡ due.actor) × (clock_of (set_number clocks due.actor new) p ≡ clock_of clocks p))
        → IsAfter s due p (clock_of clocks p) (clock_of (set_number clocks due.actor new) p)
    from (inl (_, now)) = inl (omega (arith, time, ap (λ (c : Clock). c.time) now))
    from (inr (other, same)) = inr (other, same, λ console. absurd (omega (arith, positive, console)))

-- after a turn of a processor or of the timer
processor-after : (s : State) (clocks : List Clock) (due : Due) (idle : Bool) (p : ℕ) → 1 ≤ due.actor
    → (clock_of (clocks_after_processor clocks due idle) p).waits ≡ false
    → IsAfter s due p (clock_of clocks p) (clock_of (clocks_after_processor clocks due idle) p)
processor-after s clocks due true p positive runs = own-after s clocks due p
    (record { time = due.time; waits = true; idle = (clock_of clocks due.actor).idle }) positive refl runs
processor-after s clocks due false p positive runs = from (own-after s all due p new positive refl runs)
  where
    all : List Clock
    all = map (woken due.time) clocks

    new : Clock
    new = record { time = due.time; waits = false; idle = (clock_of clocks due.actor).idle }

    from : IsAfter s due p (clock_of (map (woken due.time) clocks) p)
        (clock_of (clocks_after_processor clocks due false) p)
        → IsAfter s due p (clock_of clocks p) (clock_of (clocks_after_processor clocks due false) p)
    from (inl late) = inl late
    from (inr (other, same, spared)) =
        next (woken-kept due.time clocks p (ap (λ (c : Clock). c.waits) (sym same) ∙ runs))
      where
        next : IsKept due.time (clock_of clocks p) (clock_of (map (woken due.time) clocks) p)
            → IsAfter s due p (clock_of clocks p) (clock_of (clocks_after_processor clocks due false) p)
        next (inl late) = inl (omega (arith, late, ap (λ (c : Clock). c.time) same))
        next (inr kept) = inr (other, same ∙ kept, spared)

-- the clock of a processor that is there, after a turn of the console
pub console-clock : (s : State) (time : ℕ) (clocks : List Clock) (p : ℕ) → 1 ≤ p → p ≤ length clocks
    → at_number (clocks_after_console s time clocks) p ≡ Some (clock_after_console s time clocks p)
console-clock s time clocks p low high =
    let new : ℕ → Clock = clock_after_console s time clocks in
    let none : Clock = record { time = 0; waits = true; idle = 0 } in
    number-some (map new (numbers clocks)) p none
    (low, omega (arith, high, length-map-range_with_len new 1 (length clocks)))
    ∙ ap Some
    (get_or-map-range_with_len new 1 (length clocks) (p - 1) p none (omega (arith, low, high)) (omega (arith, low)))

neither : (a b : Bool) → (a || b) ≡ false → b ≡ false
neither true b e = cc
neither false b e = e

-- after a turn of the console
console-after : (s : State) (clocks : List Clock) (due : Due) (p : ℕ) → ¬ (p ≡ due.actor) → 1 ≤ p
    → (clock_of (clocks_after_console s due.time clocks) p).waits ≡ false
    → IsAfter s due p (clock_of clocks p) (clock_of (clocks_after_console s due.time clocks) p)
console-after s clocks due p other low runs = from (at_number (clocks_after_console s due.time clocks) p) refl
  where
    from : (o : Option Clock) → at_number (clocks_after_console s due.time clocks) p ≡ o
        → IsAfter s due p (clock_of clocks p) (clock_of (clocks_after_console s due.time clocks) p)
    from None is = let impossible : true ≡ false = sym (missing (clocks_after_console s due.time clocks) p is) ∙ runs in
        cc
    from (Some c) is = at ((clock_of clocks p).waits || is_none (thread_on s.records p)) refl
      where
        high : p ≤ length clocks
        high = omega (arith, (number-within (clocks_after_console s due.time clocks) p c is).1, length-map-range_with_len (clock_after_console s due.time clocks) 1 (length clocks))

        new : clock_of (clocks_after_console s due.time clocks) p ≡ clock_after_console s due.time clocks p
        new = there (clocks_after_console s due.time clocks) p (clock_after_console s due.time clocks p)
            (console-clock s due.time clocks p low high)

        at : (b : Bool) → ((clock_of clocks p).waits || is_none (thread_on s.records p)) ≡ b
            → IsAfter s due p (clock_of clocks p) (clock_of (clocks_after_console s due.time clocks) p)
        at true idle =
            let now : clock_after_console s due.time clocks p ≡ idle_to due.time (clock_of clocks p) = rw idle refl in
            inl (omega (arith, ap (λ (x : Clock). x.time) (new ∙ now)))
        at false spared =
            let now : clock_after_console s due.time clocks p ≡ clock_of clocks p = rw spared refl in
            inr
            (other, new ∙ now, λ console. neither (clock_of clocks p).waits (is_none (thread_on s.records p)) spared)

-- after any turn
clock-after : (s : State) (clocks : List Clock) (due : Due) (idle : Bool) (p : ℕ) → 1 ≤ p
    → (clock_of (clocks_after s clocks due idle) p).waits ≡ false
    → IsAfter s due p (clock_of clocks p) (clock_of (clocks_after s clocks due idle) p)
clock-after s clocks due idle p positive runs = at (due.actor == 0) refl runs
  where
    at : (b : Bool) → (due.actor == 0) ≡ b
        → (clock_of (cond b (clocks_after_console s due.time clocks) (clocks_after_processor clocks due idle)) p).waits
        ≡ false
        → IsAfter s due p (clock_of clocks p)
        (clock_of (cond b (clocks_after_console s due.time clocks) (clocks_after_processor clocks due idle)) p)
    at true is run = console-after s clocks due p
        (λ same. absurd (omega (arith, positive, same, eqb-true due.actor 0 is))) positive run
    at false is run = processor-after s clocks due idle p (from (eqb-false due.actor 0 is)) run
      where
        from : ¬ (due.actor ≡ 0) → 1 ≤ due.actor
        from other = omega (arith, other)

-- ---- moments

-- ---- alarms

-- a thread that sleeps is one of the numbered, and wakes no earlier than this
abbrev pub AreLater : ℕ → ℕ → (ℕ → Option ℕ) → Type 0
AreLater count now alarms = (t time : ℕ) → alarms t ≡ Some time → (1 ≤ t) × (t < 1 + count) × (now ≤ time)

-- the thread that goes to sleep runs on the processor
pub sleeper-found : (w : World) (p : ℕ) (sleeper : Sleeper) → sleeper_on w p ≡ Some sleeper
    → thread_on w.state.records p ≡ Some sleeper.thread
sleeper-found w p sleeper is = at (thread_on w.state.records p) is
  where
    by : (t : ℕ) (trap : Option ScriptTrap) → sleeper_by t trap ≡ Some sleeper → Some t ≡ Some sleeper.thread
    by t (Some (Sleep ticks)) e = let same : record { thread = t; ticks = ticks } ≡ sleeper = some-injective _ _ e in
        ap (λ (s : Sleeper). Some s.thread) same
    by t other e = cc

    at : (o : Option ℕ) → option_and_then (λ t. sleeper_by t (slice_on w p t).trap) o ≡ Some sleeper
        → o ≡ Some sleeper.thread
    at None e = cc
    at (Some t) e = by t (slice_on w p t).trap e

-- after one is set
pub set-later : (count now : ℕ) (alarms : ℕ → Option ℕ) (thread : ℕ) (alarm : Option ℕ) → AreLater count now alarms
    → ((time : ℕ) → alarm ≡ Some time → (1 ≤ thread) × (thread < 1 + count) × (now ≤ time))
    → AreLater count now (set_alarm alarms thread alarm)
set-later count now alarms thread alarm later new t time = at (t == thread) refl
  where
    at : (b : Bool) → (t == thread) ≡ b → cond b alarm (alarms t) ≡ Some time → (1 ≤ t) × (t < 1 + count) × (now ≤ time)
    at true is e = let same = eqb-true t thread is in let of = new time e in
        (omega (arith, same, of.0), omega (arith, same, of.1), of.2)
    at false is e = later t time e

-- after a turn at a time that is no earlier
pub alarms-later : (m : Moment) (count low time actor : ℕ) → low ≤ time → AreLater count low m.alarms
    → length m.world.state.records ≤ count → AreLater count low (alarms_after m time actor)
alarms-later m count low time actor early later few =
    at (actor == 0) (nat_le actor (length m.clocks)) (sleeper_on m.world actor) refl
  where
    at : (b c : Bool) (o : Option Sleeper) → sleeper_on m.world actor ≡ o
        → AreLater count low
        (cond b m.alarms (cond c (alarms_asleep m.alarms time o) (set_alarm m.alarms (actor - length m.clocks) None)))
    at true c o is = later
    at false true None is = later
    at false true (Some sleeper) is =
        let runs = found-runs m.world.state.records actor sleeper.thread (sleeper-found m.world actor sleeper is) in
        let there = numbered m.world.state.records sleeper.thread (status.Running actor runs.0) runs.1 in
        set-later count low m.alarms sleeper.thread (Some (time + sleeper.ticks)) later
        (λ t e. let same : time + sleeper.ticks ≡ t = some-injective (time + sleeper.ticks) t e in
        (there.0, omega (arith, there.1, few), omega (arith, same, early)))
    at false false o is = set-later count low m.alarms (actor - length m.clocks) None later (λ t e. cc)

-- What each moment keeps: its world is orderly, the commands that are left are made no earlier, in order, and so is what the
-- processors do next. Nor does a thread wake earlier.
pub record IsTimely (program : Program) (m : Moment) : Type 0 where
  pub orderly : IsOrderly m.world
  pub times : Rises m.time m.times
  pub due : (p : ℕ) → 1 ≤ p → p < 1 + program.limits.processors → (clock_of m.clocks p).waits ≡ false
      → m.time ≤ (clock_of m.clocks p).time + cost_of m.world (processor_event m.world p)
  pub alarms : AreLater (length m.world.state.records) m.time m.alarms

-- a turn isn't done earlier than this, and the console's is when its next command is made
abbrev pub IsNext : Moment → Due → Type 0
IsNext m due = (m.time ≤ due.time) × (due.actor ≡ 0 → (rest : List ℕ) × (m.times ≡ due.time ∷ rest))

console-next : (m : Moment) → Rises m.time m.times → Each (IsNext m) (console_due m)
console-next m rises = at m.times refl rises
  where
    at : (times : List ℕ) → m.times ≡ times → Rises m.time times
        → Each (IsNext m) (map (λ time. record { time = time; actor = 0 }) (take 1 times))
    at [] is up = tt
    at (t ∷ ts) is up = ((up.0, λ _. (ts, is)), tt)

-- the times of the commands that are left, if none of them is done before this
console-rises : (time low : ℕ) (times : List ℕ) → Each (λ (other : Due). time ≤ other.time)
    (map (λ t. record { time = t; actor = 0 }) (take 1 times)) → Rises low times → Rises time times
console-rises time low [] later rises = tt
console-rises time low (t ∷ ts) later rises = (later.0, rises.1)

module _ (program : Program) (m : Moment) (timely : IsTimely program m) where
  all-next : Each (IsNext m) (all_due program m)
  all-next =
      each-due (IsNext m) program m (console-next m timely.times)
      (λ t time low high is. ((timely.alarms t time is).2, λ same. absurd (omega (arith, low, same))))
      (λ p low high runs. (timely.due p low high runs, λ same. absurd (omega (arith, low, same))))

  module _ (due : Due) (first : earliest (all_due program m) ≡ Some due) where
    pub next : IsNext m due
    next = earliest-one (IsNext m) (all_due program m) due all-next first

    least : Each (IsBy due) (all_due program m)
    least = earliest-least (all_due program m) due first

    -- the times of the commands that are left then
    times-then : Rises due.time (cond (due.actor == 0) (drop 1 m.times) m.times)
    times-then = at (due.actor == 0) refl
      where
        at : (b : Bool) → (due.actor == 0) ≡ b → Rises due.time (cond b (drop 1 m.times) m.times)
        at true is = from (next.1 (eqb-true due.actor 0 is))
          where
            from : ((rest : List ℕ) × (m.times ≡ due.time ∷ rest)) → Rises due.time (drop 1 m.times)
            from (rest, these) =
                let up : Rises m.time (due.time ∷ rest) = subst (Rises m.time) these timely.times in
                subst (λ times. Rises due.time (drop 1 times)) (sym these) up.1
        at false is = console-rises due.time m.time m.times (console-each (IsBy due) program m least) timely.times

    -- the alarms then
    alarms-then : AreLater (length (system_turn program m.world due.actor).world.state.records) due.time m.alarms
    alarms-then t time is =
        let at = timely.alarms t time is in
        (at.0, omega (arith, at.1, turn-grows program m.world due.actor), alarm-each (IsBy due) program m t time least at.0 at.1 is)

    -- the world and the clocks then
    abbrev after : World
    after = (system_turn program m.world due.actor).world

    abbrev clocks : List Clock
    clocks = clocks_after after.state m.clocks due (is_idle_draw (system_turn program m.world due.actor).answer)

    pub kept : IsTimely program (moment_after m (turn_due program m due))
    kept =
        let turns = turn-keeps program m.world due.actor timely.orderly in
        record {
          orderly = turns.0;
          times = times-then;
          due = λ p low high runs. due-then p low high turns.1 runs;
          alarms = alarms-later m (length (system_turn program m.world due.actor).world.state.records) due.time due.time
              due.actor (omega arith) alarms-then (turn-grows program m.world due.actor);
        }
      where
        due-then : (p : ℕ) → 1 ≤ p → p < 1 + program.limits.processors
            → ((q : ℕ) → ¬ (q ≡ due.actor) → 1 ≤ q → IsSpared due.actor after.state q
            → cost_of after (processor_event after q) ≡ cost_of m.world (processor_event m.world q))
            → (clock_of clocks p).waits ≡ false
            → due.time ≤ (clock_of clocks p).time + cost_of after (processor_event after p)
        due-then p low high costs runs = from (clock-after after.state m.clocks due
            (is_idle_draw (system_turn program m.world due.actor).answer) p low runs)
          where
            from : IsAfter after.state due p (clock_of m.clocks p) (clock_of clocks p)
                → due.time ≤ (clock_of clocks p).time + cost_of after (processor_event after p)
            from (inl late) = omega (arith, late)
            from (inr (other, same, spared)) =
                let ran : (clock_of m.clocks p).waits ≡ false = ap (λ (c : Clock). c.waits) (sym same) ∙ runs in
                let earlier = processor-each (IsBy due) program m p least low high ran in
                omega (arith, earlier, ap (λ (c : Clock). c.time) same, costs p other low spared)

-- ---- all turns

pub within-some : (end : ℕ) (o : Option Due) (due : Due) → within end o ≡ Some due → o ≡ Some due
within-some end None due e = cc
within-some end (Some x) due e = at (nat_lt end x.time) e
  where
    at : (b : Bool) → cond b None (Some x) ≡ Some due → Some x ≡ Some due
    at true is = cc
    at false is = is

-- a next turn is the one that follows, and the earliest of those due
pub next-follows : (program : Program) (m : Moment) (due : Due) → next_due program m ≡ Some due
    → following program m ≡ Some due
next-follows program m due is = at (is_stopped program m) is
  where
    at : (b : Bool) → cond b None (following program m) ≡ Some due → following program m ≡ Some due
    at true is = cc
    at false is = is

pub first-due : (program : Program) (m : Moment) (due : Due) → next_due program m ≡ Some due
    → earliest (all_due program m) ≡ Some due
first-due program m due is =
    within-some (end_of program) (earliest (all_due program m)) due (next-follows program m due is)

turns-rise : (program : Program) (room : ℕ) (m : Moment) → IsTimely program m
    → Rises m.time (map (λ done. done.time) (turns_from program room m))
turns-rise program zero m timely = tt
turns-rise program (suc room) m timely = at (λ next. turns-rise program room next) (next_due program m) refl
  where
    at : ((next : Moment) → IsTimely program next
        → Rises next.time (map (λ done. done.time) (turns_from program room next))) → (o : Option Due)
        → next_due program m ≡ o → Rises m.time (map (λ (done : TimedTurn). done.time)
        (due_first program m (λ done. turns_from program room (moment_after m done)) o))
    at later None is = tt
    at later (Some due) is =
        let first = first-due program m due is in
        ((next program m timely due first).0, later (moment_after m (turn_due program m due)) (kept program m timely due first))

pub opening-timely : (program : Program) → IsWithinBounds program.limits → IsNonDecreasing program.times
    → IsTimely program (opening_moment program)
opening-timely program bounds sorted = record {
  orderly = record { order = opening-order program.limits bounds; contexts = omega arith };
  times = sorted-from program.times sorted;
  due = λ p low high runs. omega arith;
  alarms = λ t time e. cc;
}

pub times-rise : (program : Program) → IsWithinBounds program.limits → IsNonDecreasing program.times
    → IsNonDecreasing (map (λ done. done.time) (timed_turns program))
times-rise program bounds sorted = rises-sorted 0 (map (λ (done : TimedTurn). done.time) (timed_turns program))
    (turns-rise program timed_room (opening_moment program) (opening-timely program bounds sorted))
