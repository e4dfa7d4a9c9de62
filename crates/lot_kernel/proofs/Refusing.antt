-- Refusals: nothing changes, and the reply names the first check that fails.
use Rattle.lot_kernel.proofs.Common.{Action, After, BadProcessor, BadTicks, Bool, Command, Event, GoesOn, IsThere, List, MatchOption, None, NotRunning, Option, Outcome, Record, Refusal, Snapshot, Some, State, TrapRefusal, ap, arith, at_number, at_number-map, checked_effect, command_effect, command_refusal, command_step, compensation_for, effect_of, event_effect, event_refusal, expire, false, finish_trap, first_failing, if◌then◌else◌, inl, is_bad_processor, is_live, is_live_status, is_no_mutex, is_none, is_some, length, live_of, nat_eq, nat_le, nat_lt, nat_tests, not, option_and_then, option_any, option_eq, option_map, overrun, refl, step, stopped, suc, sym, thread_on, thread_there, trap, trap_effect, trap_refusal, true, unless_refused, unwrap_or, used_by, used_there, zero, ℕ, [], ◌+◌, ◌-◌, ◌<◌, ◌==◌, ◌^◌, ◌||◌, ◌∙◌, ◌∷◌, ◌≡◌, ◌≤◌}
use Rattle.lot_machine.specs.declared.event.Event.TheVariants as event
use Rattle.lot_machine.specs.declared.reply.Outcome.TheVariants as outcome
use Rattle.lot_machine.specs.declared.reply.Reply.TheVariants.{Refused}
use Rattle.lot_kernel.proofs.PortTraps.{Shows}
use Rattle.lot_kernel.proofs.Trapping.{number-there, number-within}

-- ---- checks, in order

module _ {R : Type 0} where
  -- checks that go before the others: they are reached only if none of these fails
  pub three-pass : (a b c : Bool) (x y z : R) (rest : List (Bool × R))
      → None ≡ first_failing ((a, x) ∷ (b, y) ∷ (c, z) ∷ [])
      → first_failing ((a, x) ∷ (b, y) ∷ (c, z) ∷ rest) ≡ first_failing rest
  three-pass true b c x y z rest is = cc
  three-pass false true c x y z rest is = cc
  three-pass false false true x y z rest is = cc
  three-pass false false false x y z rest is = refl

  pub three-fail : (a b c : Bool) (x y z : R) (rest : List (Bool × R)) (r : R) → Some r
      ≡ first_failing ((a, x) ∷ (b, y) ∷ (c, z) ∷ []) → first_failing ((a, x) ∷ (b, y) ∷ (c, z) ∷ rest) ≡ Some r
  three-fail true b c x y z rest r is = sym is
  three-fail false true c x y z rest r is = sym is
  three-fail false false true x y z rest r is = sym is
  three-fail false false false x y z rest r is = cc

  pub two-pass : (a b c : Bool) (x y z : R) → a ≡ false → b ≡ false
      → first_failing ((a, x) ∷ (b, y) ∷ (c, z) ∷ []) ≡ first_failing ((c, z) ∷ [])
  two-pass a b c x y z first second = rw (first, second) refl

  -- one check for two limits
  pub second-full : (a b : Bool) (r : R) → true ≡ b → first_failing ((a || b, r) ∷ []) ≡ Some r
  second-full true b r is = refl
  second-full false b r is = rw (← is) refl

-- ---- commands

module _ (s : State) (c : Command) (r : Refusal) (is : command_refusal s c ≡ Some r) where
  pub refused-reply : Refused r ≡ (command_step s c).reply
  refused-reply = sym (ap (λ (o : Option Refusal). (unless_refused s o (command_effect s c)).reply) is)

  pub refused-state : s ≡ (command_step s c).state
  refused-state = sym (ap (λ (o : Option Refusal). (unless_refused s o (command_effect s c)).state) is)

-- a command that isn't refused has its effect
pub done : (s : State) (c : Command) → command_refusal s c ≡ None → command_step s c ≡ command_effect s c
done s c is = ap (λ (o : Option Refusal). unless_refused s o (command_effect s c)) is

-- ---- events

module _ (s : State) (e : Event) (r : Refusal) (is : event_refusal s e ≡ Some r) where
  pub refused-event-reply : Refused r ≡ (step s e).reply
  refused-event-reply = sym (ap (λ (o : Option Refusal). (unless_refused s o (event_effect s e)).reply) is)

  pub refused-event-state : s ≡ (step s e).state
  refused-event-state = sym (ap (λ (o : Option Refusal). (unless_refused s o (event_effect s e)).state) is)

-- an event that isn't refused has its effect
pub event-done : (s : State) (e : Event) → event_refusal s e ≡ None → step s e ≡ event_effect s e
event-done s e is = ap (λ (o : Option Refusal). unless_refused s o (event_effect s e)) is

-- ---- traps

-- a refused trap shows its refusal, and nothing else
pub refused-shows : (now : Snapshot) (t : ℕ) (a : Action) (r : TrapRefusal) (said : Outcome) (left : After)
    → trap_refusal now.state t a ≡ Some r → said ≡ outcome.Refused r → left ≡ GoesOn
    → Shows now now (effect_of now.state t a) said left
refused-shows now t a r said left is outcome after = record {
  outcome = outcome
      ∙ sym (ap (λ (o : Option TrapRefusal). (checked_effect now.state o (trap_effect now.state t a)).outcome) is);
  after = after
      ∙ sym (ap (λ (o : Option TrapRefusal). (checked_effect now.state o (trap_effect now.state t a)).after) is);
  state = sym (ap (λ (o : Option TrapRefusal). (checked_effect now.state o (trap_effect now.state t a)).state) is);
  stale = λ x is. inl is;
  kept = λ x is. is;
  meter = refl;
}

-- a number without an element, as the test of its range says
pub number-missing : {A : Type 0} (xs : List A) (n : ℕ) (found : Bool) → (found ≡ true → IsThere xs n)
    → (IsThere xs n → found ≡ true) → is_none (at_number xs n) ≡ not found
number-missing xs n true there is = number-there xs n (there refl)
number-missing xs n false there is = by (is_none (at_number xs n)) refl
  where
    by : (b : Bool) → is_none (at_number xs n) ≡ b → is_none (at_number xs n) ≡ true
    by true e = e
    by false e = let never : false ≡ true = is (number-within xs n e) in cc

pub le-of : (a b : ℕ) → nat_le a b ≡ true → a ≤ b
le-of a b is = grind (arith, nat_tests)

le-true : (a b : ℕ) → a ≤ b → nat_le a b ≡ true
le-true a b low = grind (arith, nat_tests)

-- a number from 1, tested against the count
pub within-count : {A : Type 0} (xs : List A) (n count : ℕ) → 0 < n → count ≡ length xs → nat_le n count ≡ true
    → IsThere xs n
within-count xs n count some is low = (some, omega (arith, is, le-of n count low))

pub tested-count : {A : Type 0} (xs : List A) (n count : ℕ) → 0 < n → count ≡ length xs
    → is_none (at_number xs n) ≡ not (nat_le n count)
tested-count xs n count some is = number-missing xs n (nat_le n count) (within-count xs n count some is)
    (λ (there : IsThere xs n). le-true n count (omega (arith, is, there.1)))

-- no mutex has a number above their count, though a holder may have it
pub tested-mutex : (s : State) (m count : ℕ) → 0 < m → count ≡ s.limits.mutexes → s.limits.mutexes ≤ length s.mutexes
    → is_no_mutex s m ≡ not (nat_le m count)
tested-mutex s m count some is many = by (nat_le m count) refl
  where
    over : (a b : ℕ) → nat_le a b ≡ false → nat_lt b a ≡ true
    over a b high = grind (arith, nat_tests)

    under : (a b : ℕ) → a ≤ b → nat_lt b a ≡ false
    under a b low = grind (arith, nat_tests)

    either : (b : Bool) → (b || true) ≡ true
    either true = refl
    either false = refl

    by : (b : Bool) → nat_le m count ≡ b → is_no_mutex s m ≡ not b
    by true low = let within = le-of m count low in
        rw (number-there s.mutexes m (some, omega (arith, within, is, many)), under m s.limits.mutexes (omega (arith, within, is))) refl
    by false high = ap (λ b. is_none (at_number s.mutexes m) || b) (ap (λ n. nat_lt n m) (sym is) ∙ over m count high)
        ∙ either (is_none (at_number s.mutexes m))

pub mutex-zero : (s : State) (m : ℕ) → m ≤ 0 → is_no_mutex s m ≡ not (nat_lt 0 m)
mutex-zero s zero low = refl
mutex-zero s (suc m) low = absurd (omega (arith, low))

-- no element has the number 0
pub tested-zero : {A : Type 0} (xs : List A) (n : ℕ) → n ≤ 0 → is_none (at_number xs n) ≡ not (nat_lt 0 n)
tested-zero xs zero low = refl
tested-zero xs (suc n) low = absurd (omega (arith, low))

-- ---- what is found

-- a processor is busy if a runner is found there
pub busy-on : {A : Type 0} (o : Option A) (f : A → ℕ) (x : Option ℕ) → MatchOption o (x ≡ None) (λ a. x ≡ Some (f a))
    → is_some x ≡ is_some o
busy-on None f x is = ap is_some is
busy-on (Some a) f x is = ap is_some is

-- another thread, or nobody, owns the mutex
pub not-owner : (o : Option ℕ) (t : ℕ) → true ≡ not (option_eq nat_eq o (Some t))
    → option_any (λ owner. owner == t) o ≡ false
not-owner None t is = refl
not-owner (Some x) t is = by (x == t) is
  where
    by : (b : Bool) → true ≡ not b → b ≡ false
    by true e = cc
    by false e = refl

-- a thread isn't live if it has no record, or one that isn't live
pub nobody-live : (s : State) (t : ℕ) → at_number s.records t ≡ None → is_live (live_of s) t ≡ false
nobody-live s t none = ap (option_any (λ flag. flag)) (at_number-map (λ (x : Record). is_live_status x.status) s.records
    t ∙ ap (option_map (λ (x : Record). is_live_status x.status)) none)

pub not-live : (s : State) (t : ℕ) (r : Record) (live : Bool) → at_number s.records t ≡ Some r
    → is_live_status r.status ≡ live → is_live (live_of s) t ≡ live
not-live s t r live there is =
    ap (option_any (λ flag. flag)) (at_number-map (λ (x : Record). is_live_status x.status) s.records t
    ∙ ap (option_map (λ (x : Record). is_live_status x.status)) there) ∙ is

-- ---- what is missing

pub missing : {A : Type 0} (o : Option A) → false ≡ is_some o → is_none o ≡ true
missing None is = refl
missing (Some x) is = cc

pub no-record : {A : Type 0} (found o : Option A) → found ≡ o → is_some found ≡ false → o ≡ None
no-record None o is none = sym is
no-record (Some x) o is none = cc

pub present : {A : Type 0} (o : Option A) → true ≡ is_some o → is_none o ≡ false
present None is = cc
present (Some x) is = refl

pub missing-of : {A B : Type 0} (f : A → B) (o : Option A) → false ≡ is_some (option_map f o) → is_none o ≡ true
missing-of f None is = refl
missing-of f (Some x) is = cc

pub present-of : {A B : Type 0} (f : A → B) (o : Option A) → true ≡ is_some (option_map f o) → is_none o ≡ false
present-of f None is = cc
present-of f (Some x) is = refl

-- ---- events on a processor where a thread runs

not-above : (a b : ℕ) → a ≤ b → nat_lt b a ≡ false
not-above a b low = grind (arith, nat_tests)

is-above : (a b : ℕ) → b < a → nat_lt b a ≡ true
is-above a b high = grind (arith, nat_tests)

not-within : (a b : ℕ) → a < b → nat_le b a ≡ false
not-within a b low = grind (arith, nat_tests)

module _ (s : State) (p t used : ℕ) (good : is_bad_processor s p ≡ false) (on : thread_on s.records p ≡ Some t)
    (used_is : used_by s.records p t ≡ Some used) where
  thread-is : thread_there s p ≡ t
  thread-is = ap (λ o. unwrap_or o 0) on

  used-there : used_there s p ≡ used
  used-there = ap (λ o. unwrap_or (option_and_then (used_by s.records p) o) 0) on ∙ ap (λ o. unwrap_or o 0) used_is

  pub expires : step s (event.Expire p) ≡ stopped s t (s.limits.quantum - used) None
  expires =
      event-done s (event.Expire p) (rw (good, on) refl)
      ∙ ap (λ u. expire s u (used_there s p)) thread-is ∙ ap (expire s t) used-there

  pub preempts : (ticks : ℕ) → used + ticks ≤ s.limits.quantum → step s (event.Preempt p ticks) ≡ stopped s t ticks None
  preempts ticks fits =
      let low = ap (λ u. nat_lt s.limits.quantum (u + ticks)) used-there
      ∙ not-above (used + ticks) s.limits.quantum fits in
      event-done s (event.Preempt p ticks) (fine low) ∙ ap (λ u. stopped s u ticks None) thread-is
    where
      fine : nat_lt s.limits.quantum (used_there s p + ticks) ≡ false → event_refusal s (event.Preempt p ticks) ≡ None
      fine low = two-pass (is_bad_processor s p) (is_none (thread_on s.records p))
          (nat_lt s.limits.quantum (used_there s p + ticks)) BadProcessor NotRunning BadTicks good (ap is_none on)
          ∙ ap (λ b. first_failing ((b, BadTicks) ∷ [])) low

  pub over-preempted : (ticks : ℕ) → s.limits.quantum < used + ticks
      → event_refusal s (event.Preempt p ticks) ≡ Some BadTicks
  over-preempted ticks over =
      let high = ap (λ u. nat_lt s.limits.quantum (u + ticks)) used-there
      ∙ is-above (used + ticks) s.limits.quantum over in
      two-pass (is_bad_processor s p) (is_none (thread_on s.records p))
      (nat_lt s.limits.quantum (used_there s p + ticks)) BadProcessor NotRunning BadTicks good (ap is_none on)
      ∙ ap (λ b. first_failing ((b, BadTicks) ∷ [])) high

  pub overruns : (late : ℕ) → s.limits.quantum + late < 2 ^ 32 → step s (event.Overrun p late)
      ≡ stopped s t (s.limits.quantum - used + late) (compensation_for s.limits (s.limits.quantum + late))
  overruns late fits =
      event-done s (event.Overrun p late) (two-pass (is_bad_processor s p) (is_none (thread_on s.records p))
      (nat_le (2 ^ 32) (s.limits.quantum + late)) BadProcessor NotRunning BadTicks good (ap is_none on)
      ∙ ap (λ b. first_failing ((b, BadTicks) ∷ [])) (not-within (s.limits.quantum + late) (2 ^ 32) fits))
      ∙ ap (λ u. overrun s u (used_there s p) late) thread-is ∙ ap (λ u. overrun s t u late) used-there

  pub over-overrun : (late : ℕ) → (s.limits.quantum + late < 2 ^ 32 → ⊥)
      → event_refusal s (event.Overrun p late) ≡ Some BadTicks
  over-overrun late over =
      let high = le-true (2 ^ 32) (s.limits.quantum + late) (omega (arith, over)) in
      two-pass (is_bad_processor s p) (is_none (thread_on s.records p)) (nat_le (2 ^ 32) (s.limits.quantum + late))
      BadProcessor NotRunning BadTicks good (ap is_none on) ∙ ap (λ b. first_failing ((b, BadTicks) ∷ [])) high

  pub traps : (ran : ℕ) (action : Action) → used + ran + 1 ≤ s.limits.quantum
      → step s (event.Trap p ran action) ≡ finish_trap s p t (ran + 1) (used + ran + 1) (effect_of s t action)
  traps ran action fits =
      let low = ap (λ u. nat_lt s.limits.quantum (u + ran + 1)) used-there
      ∙ not-above (used + ran + 1) s.limits.quantum fits in
      event-done s (event.Trap p ran action) (two-pass (is_bad_processor s p) (is_none (thread_on s.records p))
      (nat_lt s.limits.quantum (used_there s p + ran + 1)) BadProcessor NotRunning BadTicks good (ap is_none on)
      ∙ ap (λ b. first_failing ((b, BadTicks) ∷ [])) low)
      ∙ ap (λ u. trap s p u (used_there s p) ran action) thread-is ∙ ap (λ u. trap s p t u ran action) used-there

  pub over-trapped : (ran : ℕ) (action : Action) → s.limits.quantum < used + ran + 1
      → event_refusal s (event.Trap p ran action) ≡ Some BadTicks
  over-trapped ran action over =
      let high = ap (λ u. nat_lt s.limits.quantum (u + ran + 1)) used-there
      ∙ is-above (used + ran + 1) s.limits.quantum over in
      two-pass (is_bad_processor s p) (is_none (thread_on s.records p))
      (nat_lt s.limits.quantum (used_there s p + ran + 1)) BadProcessor NotRunning BadTicks good (ap is_none on)
      ∙ ap (λ b. first_failing ((b, BadTicks) ∷ [])) high
