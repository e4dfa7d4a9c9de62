-- No two threads' columns have the same name.
use Rattle.lot_curves.proofs.Common.{AreOwn, Bool, Command, Event, List, None, Option, Program, Sizes, Some, State, Thread, TurnMade, World, actor_event, ap, arith, cond, console_turn, decimal, decimal_by_steps, decimal_injective, false, is_good_name, is_letter, is_name_byte, is_no_name, is_plain_name, is_thread_name, leb-true, list_all, name_in, nat_le, next_name, opening-own, opening_world, processor_turn, refl, resolved, step, step-limits, step-own, sym, system_after, system_run, system_turn, thread_name, true, unwrap_or, ℕ, [], ◌%◌, ◌&&◌, ◌++◌, ◌+◌, ◌<◌, ◌==◌, ◌^◌, ◌||◌, ◌∙◌, ◌∷◌, ◌≡◌, ◌≤◌}
use Rattle.lot_machine.specs.declared.event.Event.TheVariants as event

-- ---- names in a run

module _ (program : Program) where
  -- the program's limits, and names of threads that are their own
  abbrev AreNamed : State → Type 0
  AreNamed s = (s.limits ≡ program.limits) × AreOwn s

  step-named : (s : State) (e : Event) → AreNamed s → AreNamed (step s e).state
  step-named s e (limits, own) = (step-limits s e ∙ limits, step-own s e own)

  console-named : (w : World) (commands : List Command) → AreNamed w.state
      → AreNamed (console_turn program w commands).world.state
  console-named w [] named = named
  console-named w (c ∷ cs) named = step-named w.state (event.Command (resolved w.tickets (next_name w) c)) named

  turn-named : (w : World) (actor : ℕ) → AreNamed w.state → AreNamed (system_turn program w actor).world.state
  turn-named w actor named = by (actor == 0)
    where
      by : (console : Bool) → AreNamed (cond {A = TurnMade} console (console_turn program w w.commands)
          (processor_turn w actor (actor_event program w actor))).world.state
      by true = console-named w w.commands named
      by false = step-named w.state (actor_event program w actor) named

  after-named : (w : World) (actors : List ℕ) → AreNamed w.state → AreNamed (system_after program w actors).state
  after-named w [] named = named
  after-named w (actor ∷ actors) named =
      after-named (system_turn program w actor).world actors (turn-named w actor named)

-- ---- numbers

abbrev begins_with_letter : List ℕ → Bool
begins_with_letter [] = false
begins_with_letter (b ∷ bs) = is_letter b

good-begins : (name : List ℕ) → is_good_name name ≡ true → begins_with_letter name ≡ true
good-begins [] e = cc
good-begins (b ∷ bs) e = by (is_letter b) e
  where
    by : (letter : Bool) → (letter && list_all is_name_byte bs) ≡ true → letter ≡ true
    by true e = refl
    by false e = cc

digit-no_letter : (n : ℕ) → n < 10 → is_letter (48 + n) ≡ false
digit-no_letter n small = by (nat_le 97 (48 + n)) refl
  where
    by : (b : Bool) → nat_le 97 (48 + n) ≡ b → (b && nat_le (48 + n) 122) ≡ false
    by false e = refl
    by true e = absurd (omega (arith, small, leb-true 97 (48 + n) e))

number-no_letter : (n : ℕ) → n < 2 ^ 64 → begins_with_letter (decimal n) ≡ false
number-no_letter n small = decimal_by_steps (λ n ds. begins_with_letter ds ≡ false) digit-no_letter more n small
  where
    more : (n : ℕ) (ds : List ℕ) → 10 ≤ n → begins_with_letter ds ≡ false
        → begins_with_letter (ds ++ ((48 + n % 10) ∷ [])) ≡ false
    more n [] many e = digit-no_letter (n % 10) (omega arith)
    more n (b ∷ bs) many e = e

-- ---- columns

-- where names aren't plain, a thread's name begins with a letter
named-good : (limits : Sizes) (name : List ℕ) → limits.plain_names ≡ false → is_thread_name limits name ≡ true
    → is_no_name name ≡ false → is_good_name name ≡ true
named-good limits name good allowed some = by (is_no_name name) limits.plain_names some good allowed
  where
    by : (none plain : Bool) → none ≡ false → plain ≡ false
        → (none || cond plain (is_plain_name name) (is_good_name name)) ≡ true → is_good_name name ≡ true
    by none true a b e = cc
    by true plain a b e = cc
    by false false a b e = e

module _ (s : State) (own : AreOwn s) (good : s.limits.plain_names ≡ false) where
  -- the name of a thread, empty if it has none or was removed
  abbrev name_of : ℕ → List ℕ
  name_of t = unwrap_or (thread_name s t) []

  has-name : (t : ℕ) → is_no_name (name_of t) ≡ false → thread_name s t ≡ Some (name_of t)
  has-name t some = by (thread_name s t) some
    where
      by : (o : Option (List ℕ)) → is_no_name (unwrap_or o []) ≡ false → o ≡ Some (unwrap_or o [])
      by None e = cc
      by (Some name) e = refl

  -- it is no number
  no-number : (t n : ℕ) → n < 2 ^ 32 → is_no_name (name_of t) ≡ false → ¬ (name_of t ≡ decimal n)
  no-number t n few some same =
      let letter = good-begins (name_of t)
      (named-good s.limits (name_of t) good (own.good (Thread t) (name_of t) (has-name t some)) some) in
      let contrary : true ≡ false = sym letter ∙ ap begins_with_letter same ∙ number-no_letter n (omega (arith, few)) in
      cc

  apart : (t u : ℕ) → t < 2 ^ 32 → u < 2 ^ 32 → name_in s t ≡ name_in s u → t ≡ u
  apart t u small less same = by (is_no_name (name_of t)) refl (is_no_name (name_of u)) refl
    where
      shown : (v : ℕ) (b : Bool) → is_no_name (name_of v) ≡ b → name_in s v ≡ cond b (decimal v) (name_of v)
      shown v b is = ap (λ b. cond b (decimal v) (name_of v)) is

      thread-same : Thread t ≡ Thread u → t ≡ u
      thread-same e = cc

      by : (none : Bool) → is_no_name (name_of t) ≡ none → (other : Bool) → is_no_name (name_of u) ≡ other → t ≡ u
      by true is true also = decimal_injective t u (omega (arith, small)) (omega (arith, less))
          (sym (shown t true is) ∙ same ∙ shown u true also)
      by false is false also =
          let equal : name_of t ≡ name_of u = sym (shown t false is) ∙ same ∙ shown u false also in
          thread-same
          (own.own (Thread t) (Thread u) (name_of t) (has-name t is) (has-name u also ∙ ap Some (sym equal)) is)
      by false is true also = absurd (no-number t u less is (sym (shown t false is) ∙ same ∙ shown u true also))
      by true is false also =
          absurd (no-number u t small also (sym (sym (shown t true is) ∙ same ∙ shown u false also)))

pub columns-apart : (program : Program) (history : List ℕ) (t u : ℕ) → program.limits.plain_names ≡ false → t < 2 ^ 32
    → u < 2 ^ 32 → name_in (system_run program history).state t ≡ name_in (system_run program history).state u → t ≡ u
columns-apart program history t u good small less same =
    let (limits, own) = after-named program (opening_world program) history (refl, opening-own program.limits) in
    apart (system_run program history).state own
    (ap (λ (sizes : Sizes). sizes.plain_names) limits ∙ good) t u small less same
