-- The dues at the end of a picture, and in the report.
use Rattle.lot_chart.proofs.Common.{Bool, IsNonDecreasing, IsWithinBounds, List, Program, State, Stretch, Thread, TimedTurn, ap, arith, cases_eq, div-eq_of_lt, due_after, due_from, due_in, due_part, due_rate, due_to, dues_in, eq-eqb, false, fold, get_or, if◌then◌else◌, inl, inr, last_end, leb-true, length, length-map, live_part, live_ticks, live_time, live_value, makes, map, max, nat_le, ne_eqb, opening, refl, suc, sum_until, tick_parts, time_after, time_from, timed_stretches, timed_turns, times-rise, true, value_of, ℕ, [], ⊤, ◌*◌, ◌+◌, ◌-◌, ◌/◌, ◌<◌, ◌==◌, ◌∙◌, ◌∷◌, ◌≡◌, ◌≢◌, ◌≤◌, ◌⊎◌}
use Rattle.lot_chart.proofs.NotedFacts.{timed_stretch}

-- ---- turns in the order of time

-- each turn comes at this time or later, and not before the one before it
abbrev AreInOrder : ℕ → List TimedTurn → Type 0
AreInOrder time [] = ⊤
AreInOrder time (done ∷ others) = (time ≤ done.time) × AreInOrder done.time others

in-order : (turns : List TimedTurn) (time : ℕ)
    → ((d : ℕ) → 0 < length turns → time ≤ get_or (map (λ (t : TimedTurn). t.time) turns) 0 d)
    → IsNonDecreasing (map (λ (t : TimedTurn). t.time) turns) → AreInOrder time turns
in-order [] time first sorted = tt
in-order (t ∷ turns) time first sorted =
    let count = length-map turns (λ (t : TimedTurn). t.time) in (
      first 0 (omega arith),
      in-order turns t.time (λ d below. sorted 0 1 d (omega arith) (omega (arith, below, count)))
          (λ i j d before below. sorted (suc i) (suc j) d (omega (arith, before)) (omega (arith, below))),
    )

-- the last turn is the latest
after-later : (time : ℕ) (turns : List TimedTurn) → AreInOrder time turns → time ≤ time_after time turns
after-later time [] order = omega arith
after-later time (t ∷ turns) order = omega (arith, order.0, after-later t.time turns order.1)

last-is : (time : ℕ) (turns : List TimedTurn) → AreInOrder time turns
    → fold (λ last (s : Stretch). max s.end last) time (map timed_stretch turns) ≡ time_after time turns
last-is time [] order = refl
last-is time (t ∷ turns) order =
    let later : max t.time time ≡ t.time = omega (arith, order.0) in
    ap (λ m. fold (λ last (s : Stretch). max s.end last) m (map timed_stretch turns)) later
    ∙ last-is t.time turns order.1

-- ---- sums over all turns

module _ (amount : State → ℕ → ℕ) (none : (s : State) → amount s 0 ≡ 0) where
  -- what the states come to between the turns
  sum_all : State → ℕ → List TimedTurn → ℕ
  sum_all s time [] = 0
  sum_all s time (done ∷ others) = amount s (done.time - time) + sum_all done.turn.world.state done.time others

  -- turns at one time add nothing
  rest-none : (s : State) (time : ℕ) (turns : List TimedTurn) → AreInOrder time turns → time_after time turns ≤ time
      → sum_all s time turns ≡ 0
  unfolding sum_all
  rest-none s time [] order within = refl
  rest-none s time (t ∷ turns) order within =
      let same : t.time - time ≡ 0 = omega (arith, after-later t.time turns order.1, within) in
      let nothing : amount s (t.time - time) ≡ 0 = ap (amount s) same ∙ none s in
      let rest = rest-none t.turn.world.state t.time turns order.1 (omega (arith, within, order.0)) in
      omega (arith, nothing, rest)

  sum-is : (s : State) (time : ℕ) (turns : List TimedTurn) → AreInOrder time turns
      → sum_until amount s time turns (time_after time turns) ≡ sum_all s time turns
  unfolding sum_all
  sum-is s time [] order = let same : time - time ≡ 0 = omega arith in ap (amount s) same ∙ none s
  sum-is s time (t ∷ turns) order = by (nat_le last t.time) refl (sum-is t.turn.world.state t.time turns order.1)
    where
      last : ℕ
      last = time_after t.time turns

      by : (b : Bool) → nat_le last t.time ≡ b
          → sum_until amount t.turn.world.state t.time turns last ≡ sum_all t.turn.world.state t.time turns
          → (if b then amount s (last - time) else amount s (t.time - time) + sum_until amount t.turn.world.state t.time
          turns last) ≡ amount s (t.time - time) + sum_all t.turn.world.state t.time turns
      by true is rest_is =
          let within = leb-true last t.time is in
          let same : last ≡ t.time = omega (arith, within, after-later t.time turns order.1) in
          let now : amount s (last - time) ≡ amount s (t.time - time) = ap (λ k. amount s (k - time)) same in
          let rest = rest-none t.turn.world.state t.time turns order.1 within in
          omega (arith, now, rest)
      by false is rest_is = ap (λ n. amount s (t.time - time) + n) rest_is

-- ---- as the report sums it up

no-ticks : (s : State) → live_ticks s 0 ≡ 0
no-ticks s = by (live_value s == 0)
  where
    none : ℕ
    none = 0

    by : (b : Bool) → (if b then none else none) ≡ none
    by true = refl
    by false = refl

no-rate : (s : State) → due_rate s 0 ≡ 0
no-rate s = by (cases_eq (live_value s) 0)
  where
    by : (live_value s ≡ 0) ⊎ (live_value s ≢ 0) → due_rate s 0 ≡ 0
    by (inl is) =
        ap (λ b. if b then 0 else (0 * tick_parts + (live_value s - 1)) / live_value s) (eq-eqb (live_value s) 0 is)
    by (inr some) =
        ap (λ b. if b then 0 else (0 * tick_parts + (live_value s - 1)) / live_value s) (ne_eqb (live_value s) 0 some)
        ∙ div-eq_of_lt (omega (arith, some))

none-due : (t : ℕ) (s : State) → due_to Thread t s 0 ≡ 0
none-due t s = ap (λ n. live_part s t (value_of s t) * n) (no-rate s) ∙ omega arith

live-is : (s : State) (time all : ℕ) (turns : List TimedTurn)
    → time_from live_ticks s time all turns ≡ all + sum_all live_ticks no-ticks s time turns
unfolding sum_all
live-is s time all [] = omega arith
live-is s time all (t ∷ turns) =
    let rest = live-is t.turn.world.state t.time (all + live_ticks s (t.time - time)) turns in
    omega (arith, rest)

-- the parts due to the thread while a state stays so
abbrev parts : ℕ → State → ℕ → ℕ
parts t s ticks = due_part s t ticks

due-within : (t : ℕ) (s : State) (time due : ℕ) (turns : List TimedTurn)
    → due_from (parts t) (makes t) s time due turns ≤ due + sum_all (due_to Thread t) (none-due t) s time turns
unfolding sum_all
due-within t s time due [] = omega arith
due-within t s time due (done ∷ others) =
    let rest = due-within t done.turn.world.state done.time
    (due_after (parts t) (makes t) s (done.time - time) due done.turn.answer) others in
    omega (arith, rest, by (makes t done.turn.answer))
  where
    by : (b : Bool)
        → (if b then 0 else due + due_part s t (done.time - time)) ≤ due + due_to Thread t s (done.time - time)
    by true = omega arith
    by false = omega arith

-- ---- at the end of a picture

module _ (program : Program) (bounds : IsWithinBounds program.limits) (sorted : IsNonDecreasing program.times) where
  abbrev turns : List TimedTurn
  turns = timed_turns program

  order : AreInOrder 0 turns
  order = in-order turns 0 (λ d below. omega arith) (times-rise program bounds sorted)

  last : last_end (timed_stretches program) ≡ time_after 0 turns
  last = last-is 0 turns order

  pub live-ends : (dues_in Thread (opening program.limits) turns).live (last_end (timed_stretches program))
      ≡ live_time (opening program.limits) turns
  live-ends =
      ap (sum_until live_ticks (opening program.limits) 0 turns) last
      ∙ sum-is live_ticks no-ticks (opening program.limits) 0 turns order
      ∙ (let all = live-is (opening program.limits) 0 0 turns in omega (arith, all))

  pub parts-end : (t : ℕ) → due_in (opening program.limits) turns t
      ≤ (dues_in Thread (opening program.limits) turns).parts t (last_end (timed_stretches program))
  parts-end t =
      let whole : (dues_in Thread (opening program.limits) turns).parts t (last_end (timed_stretches program))
      ≡ sum_all (due_to Thread t) (none-due t) (opening program.limits) 0 turns =
      ap (sum_until (due_to Thread t) (opening program.limits) 0 turns) last
      ∙ sum-is (due_to Thread t) (none-due t) (opening program.limits) 0 turns order in
      let within = due-within t (opening program.limits) 0 0 turns in
      omega (arith, whole, within)
