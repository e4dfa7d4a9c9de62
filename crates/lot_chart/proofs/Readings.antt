-- Sums sampled from turn to turn.
use Rattle.lot_chart.proofs.Common.{Bool, By, Currency, Due, Gauge, Growth, HasPassed, HaveRead, HaveReadAll, IsAscending, IsGauge, IsNow, IsRead, IsRenewed, IsSound, IsWithin, List, Live, Marks, None, Option, Some, State, Thread, TimedTurn, amount_for, ap, append-nil, append_assoc, arith, cases_lt, due_to, false, flow_at, flow_of, grown, if◌then◌else◌, inl, inr, le-leb, length, lt-leb, min, most_of, mul-div-le, mul-le-mul_right, own_value, rate_in, refl, shared_ticks, slice_index, step_of, subst, sum_until, sym, thread_of, tick_parts, true, whole_value, ℕ, [], ◌*◌, ◌++◌, ◌+◌, ◌-◌, ◌/◌, ◌<◌, ◌==◌, ◌^◌, ◌∙◌, ◌∷◌, ◌≡◌, ◌≤◌, ◌⊎◌}
use Rattle.lot_chart.proofs.Worth.{own-within}

-- ---- growth

-- what is due is a thread's or currency's own value, times the rate of the whole
due-is : (what : By) (t : ℕ) (s : State) (ticks : ℕ)
    → due_to what t s ticks ≡ own_value what s t * rate_in (whole_value what s) ticks
due-is Thread t s ticks = refl
due-is Currency c s ticks = refl

shared-is : (what : By) (s : State) (ticks : ℕ)
    → shared_ticks what s ticks ≡ (if whole_value what s == 0 then 0 else ticks)
shared-is Thread s ticks = refl
shared-is Currency s ticks = refl

-- a thread's or currency's own value is within the whole
pub now-within : (what : By) (s : State) (value : ℕ) (g : Growth) → IsSound s → value ≡ whole_value what s
    → IsNow what s g → IsWithin value g
now-within what s value Live sound is now = tt
now-within what s value (Due thread own) sound is now = omega (arith, now, is, own-within what s sound thread)

-- what makes a sum grow, as the definitions say it
pub grown-is : (what : By) (s : State) (value ticks : ℕ) (g : Growth) → value ≡ whole_value what s → IsNow what s g
    → grown g value ticks ≡ amount_for what (thread_of g) s ticks
grown-is what s value ticks Live is now = ap (λ v. if v == 0 then 0 else ticks) is ∙ sym (shared-is what s ticks)
grown-is what s value ticks (Due thread own) is now = (λ i.
    now i * (if is i == 0 then 0 else (ticks * tick_parts + (is i - 1)) / is i)) ∙ sym (due-is what thread s ticks)

-- a rate, times the whole, is little more than the parts of its ticks
rate-most : (whole ticks : ℕ) → whole * rate_in whole ticks ≤ ticks * tick_parts + whole
rate-most whole ticks = by (whole == 0)
  where
    by : (b : Bool) → whole * (if b then 0 else (ticks * tick_parts + (whole - 1)) / whole) ≤ ticks * tick_parts + whole
    by true = omega arith
    by false = omega (arith, mul-div-le (ticks * tick_parts + (whole - 1)) whole)

shared-few : (what : By) (s : State) (ticks : ℕ) → shared_ticks what s ticks ≤ ticks
shared-few what s ticks = omega (arith, shared-is what s ticks, by (whole_value what s == 0))
  where
    by : (b : Bool) → (if b then 0 else ticks) ≤ ticks
    by true = omega arith
    by false = omega arith

-- what is due in some ticks is no more than what the whole is
due-most : (what : By) (s : State) (t ticks : ℕ) → IsSound s
    → due_to what t s ticks ≤ ticks * tick_parts + whole_value what s
due-most what s t ticks sound =
    let whole = whole_value what s in
    omega (arith, due-is what t s ticks, mul-le-mul_right (rate_in whole ticks) (own-within what s sound t), rate-most whole ticks)

-- a turn adds at most its step
step-few : (what : By) (t : Option ℕ) (s : State) (ticks : ℕ) → IsSound s → whole_value what s < 2 ^ 96 → ticks < 2 ^ 32
    → amount_for what t s ticks ≤ step_of t
step-few what None s ticks sound small few = omega (arith, shared-few what s ticks, few)
step-few what (Some t) s ticks sound small few = omega (arith, due-most what s t ticks sound, small, few)

-- what is read of few turns is below the most
read-few : (what : By) (t : Option ℕ) (s : State) (n sum ticks : ℕ) → IsSound s → whole_value what s < 2 ^ 96
    → n < 2 ^ 24 → sum ≤ n * step_of t → ticks < 2 ^ 64 → sum + amount_for what t s ticks < most_of t
read-few what None s n sum ticks sound small few within early =
    omega (arith, shared-few what s ticks, few, within, early)
read-few what (Some t) s n sum ticks sound small few within early =
    omega (arith, due-most what s t ticks sound, small, few, within, early)

most-small : (t : Option ℕ) → most_of t ≤ 2 ^ 125
most-small None = omega arith
most-small (Some t) = omega arith

-- ---- one turn more

module _ (amount : State → ℕ → ℕ) (first : State) (done : List TimedTurn) (s next : State) (turn : TimedTurn)
    (time sum now most : ℕ) (ticks old new : List ℕ) (led : turn.turn.world.state ≡ next)
    (rises : now ≡ sum + amount s (turn.time - time)) (at : ℕ → ℕ) where
  more : (others : List TimedTurn) → (done ++ turn ∷ []) ++ others ≡ done ++ turn ∷ others
  more others = append_assoc done (turn ∷ []) others

  -- the sum at a tick up to the turn
  until-before : (tick : ℕ) (others : List TimedTurn) → tick ≤ turn.time
      → sum_until amount s time (turn ∷ others) tick ≡ amount s (tick - time)
  until-before tick others early =
      ap (λ b. if b then amount s (tick - time) else amount s
      (turn.time - time) + sum_until amount turn.turn.world.state turn.time others tick) (le-leb tick turn.time early)

  -- and at one after it
  until-after : (tick : ℕ) (others : List TimedTurn) → turn.time < tick → sum_until amount s time (turn ∷ others) tick
      ≡ amount s (turn.time - time) + sum_until amount next turn.time others tick
  until-after tick others late =
      ap (λ b. if b then amount s (tick - time) else amount s
      (turn.time - time) + sum_until amount turn.turn.world.state turn.time others tick) (lt-leb tick turn.time late)
      ∙ ap (λ (x : State). amount s (turn.time - time) + sum_until amount x turn.time others tick) led

  pub read-more : IsAscending ticks → IsRead amount first done s time sum most ticks old
      → HaveReadAll at ticks turn.time old new
      → ((tick : ℕ) → tick ≤ turn.time → (at tick ≡ sum + amount s (tick - time)) × (at tick < most))
      → IsRead amount first (done ++ turn ∷ []) next turn.time now most ticks new
  read-more ascending was reads exact = record { few = few; settled = settled; small = small; pending = pending }
    where
      have : HaveRead at ticks turn.time old new
      have = reads.have

      -- all new readings are of ticks
      few : length new ≤ length ticks
      few = by (cases_lt (length ticks) (length new))
        where
          by : (length ticks < length new) ⊎ (length new ≤ length ticks) → length new ≤ length ticks
          by (inl beyond) = let last = have.within (length new - 1) (omega (arith, beyond, was.few))
              (omega (arith, beyond)) in omega (arith, last, beyond)
          by (inr within) = within

      settled : (k : ℕ) → k < length new → (others : List TimedTurn)
          → slice_index new k ≡ sum_until amount first 0 ((done ++ turn ∷ []) ++ others) (slice_index ticks k)
      settled k below others = by (cases_lt k (length old))
          ∙ ap (λ (ts : List TimedTurn). sum_until amount first 0 ts (slice_index ticks k)) (sym (more others))
        where
          by : (k < length old) ⊎ (length old ≤ k)
              → slice_index new k ≡ sum_until amount first 0 (done ++ turn ∷ others) (slice_index ticks k)
          by (inl before) = have.kept k before ∙ was.settled k before (turn ∷ others)
          by (inr after) =
              let early = have.early k after below in
              have.read k after below ∙ (exact (slice_index ticks k) early).0
              ∙ ap (λ m. sum + m) (sym (until-before (slice_index ticks k) others early))
              ∙ sym (was.pending k after (have.within k after below) (turn ∷ others))

      small : (k : ℕ) → k < length new → slice_index new k < most
      small k below = by (cases_lt k (length old))
        where
          by : (k < length old) ⊎ (length old ≤ k) → slice_index new k < most
          by (inl before) = omega (arith, have.kept k before, was.small k before)
          by (inr after) =
              omega (arith, have.read k after below, (exact (slice_index ticks k) (have.early k after below)).1)

      pending : (k : ℕ) → length new ≤ k → k < length ticks → (others : List TimedTurn)
          → sum_until amount first 0 ((done ++ turn ∷ []) ++ others)
          (slice_index ticks k) ≡ now + sum_until amount next turn.time others (slice_index ticks k)
      pending k after below others =
          let late : turn.time < slice_index ticks k =
          omega (arith, reads.all (omega (arith, after, below)), ascending (length new) k after below) in
          ap (λ (ts : List TimedTurn). sum_until amount first 0 ts (slice_index ticks k)) (more others)
          ∙ was.pending k (omega (arith, have.more, after)) below (turn ∷ others)
          ∙ ap (λ m. sum + m) (until-after (slice_index ticks k) others late)
          ∙ (let rest = sum_until amount next turn.time others (slice_index ticks k) in omega (arith, rises))

-- what was read at all ticks
pub record IsReadAll (sum : ℕ → ℕ) (most : ℕ) (ticks read : List ℕ) : Type 0 where
  pub count : length read ≡ length ticks
  pub exact : (k : ℕ) → k < length ticks → slice_index read k ≡ sum (slice_index ticks k)
  pub small : (k : ℕ) → k < length ticks → slice_index read k < most

-- after the last turn
pub last-read : (amount : State → ℕ → ℕ) (first : State) (done : List TimedTurn) (s : State) (time sum most : ℕ)
    (ticks old new : List ℕ) (at : ℕ → ℕ) → IsRead amount first done s time sum most ticks old
    → HaveReadAll at ticks (2 ^ 64 - 1) old new
    → ((k : ℕ) → k < length ticks → slice_index ticks k < 2 ^ 64)
    → ((tick : ℕ) → tick < 2 ^ 64 → (at tick ≡ sum + amount s (tick - time)) × (at tick < most))
    → IsReadAll (sum_until amount first 0 done) most ticks new
last-read amount first done s time sum most ticks old new at was reads early exact =
    record { count = count; exact = λ k below. same k below (cases_lt k (length old)); small = λ k below. small k below (cases_lt k (length old)) }
  where
    have : HaveRead at ticks (2 ^ 64 - 1) old new
    have = reads.have

    count : length new ≡ length ticks
    count = by (cases_lt (length new) (length ticks)) (cases_lt (length ticks) (length new))
      where
        by : (length new < length ticks) ⊎ (length ticks ≤ length new)
            → (length ticks < length new) ⊎ (length new ≤ length ticks) → length new ≡ length ticks
        by (inl short) other = let late = reads.all short in absurd (omega (arith, late, early (length new) short))
        by (inr enough) (inl beyond) = let last = have.within (length new - 1) (omega (arith, beyond, was.few))
            (omega (arith, beyond)) in absurd (omega (arith, last, beyond))
        by (inr enough) (inr within) = omega (arith, enough, within)

    same : (k : ℕ) → k < length ticks → (k < length old) ⊎ (length old ≤ k)
        → slice_index new k ≡ sum_until amount first 0 done (slice_index ticks k)
    same k below (inl before) = have.kept k before ∙ was.settled k before []
        ∙ ap (λ (ts : List TimedTurn). sum_until amount first 0 ts (slice_index ticks k)) (append-nil done)
    same k below (inr after) =
        have.read k after (omega (arith, below, count)) ∙ (exact (slice_index ticks k) (early k below)).0
        ∙ sym (was.pending k after below [])
        ∙ ap (λ (ts : List TimedTurn). sum_until amount first 0 ts (slice_index ticks k)) (append-nil done)

    small : (k : ℕ) → k < length ticks → (k < length old) ⊎ (length old ≤ k) → slice_index new k < most
    small k below (inl before) = omega (arith, have.kept k before, was.small k before)
    small k below (inr after) =
        omega (arith, have.read k after (omega (arith, below, count)), (exact (slice_index ticks k) (early k below)).1)

-- ---- a gauge

module _ (what : By) (marks : Marks) (starts : IsAscending marks.starts.items) (ends : IsAscending marks.ends.items)
    (first : State) (done : List TimedTurn) (n : ℕ) (few : n < 2 ^ 24) (s : State) (sound : IsSound s) (time value : ℕ)
    (is_value : value ≡ whole_value what s) (small : value < 2 ^ 96) where
  valued : whole_value what s < 2 ^ 96
  valued = omega (arith, is_value, small)

  -- a gauge's sum until the next turn
  pub flow-is : (gauge : Gauge) → IsNow what s gauge.growth → gauge.sum ≤ n * step_of (thread_of gauge.growth)
      → (tick : ℕ) → tick < 2 ^ 64
      → (flow_at (flow_of value time gauge) tick ≡ gauge.sum + amount_for what (thread_of gauge.growth) s (tick - time))
      × (flow_at (flow_of value time gauge) tick < most_of (thread_of gauge.growth))
  flow-is gauge now within tick early =
      let grows = grown-is what s value (tick - time) gauge.growth is_value now in
      let low = read-few what (thread_of gauge.growth) s n gauge.sum (tick - time) sound valued few within
      (omega (arith, early)) in
      let most = most-small (thread_of gauge.growth) in
      let exact : flow_at (flow_of value time gauge) tick ≡ gauge.sum
      + amount_for what (thread_of gauge.growth) s (tick - time) =
      ap (λ m. min (gauge.sum + m) (2 ^ 128 - 1)) grows ∙ omega (arith, low, most) in
      (exact, omega (arith, exact, low))

  pub gauge-more : (next : State) (turn : TimedTurn) (old new : Gauge) → turn.time < 2 ^ 32
      → turn.turn.world.state ≡ next → IsNow what s old.growth → HasPassed marks value time turn.time old new
      → IsGauge what marks first done n s time old
      → IsGauge what marks first (done ++ turn ∷ []) (n + 1) next turn.time new
  gauge-more next turn old new early led now passed was =
      let t = thread_of old.growth in
      let flows = flow-is old now was.sum in
      let exact : (tick : ℕ) → tick ≤ turn.time → (flow_at (flow_of value time old) tick ≡ old.sum
      + amount_for what t s (tick - time)) × (flow_at (flow_of value time old) tick < most_of t) =
      λ tick before. flows tick (omega (arith, before, early)) in
      let rises : new.sum ≡ old.sum + amount_for what t s (turn.time - time) = passed.sum
      ∙ (exact turn.time (omega arith)).0 in
      let step = step-few what t s (turn.time - time) sound valued (omega (arith, early)) in
      let at = flow_at (flow_of value time old) in
      let starts_more = read-more (amount_for what t) first done s next turn time old.sum new.sum (most_of t)
      marks.starts.items old.starts.items new.starts.items led rises at starts was.starts passed.starts exact in
      let ends_more = read-more (amount_for what t) first done s next turn time old.sum new.sum
      (most_of t) marks.ends.items old.ends.items new.ends.items led rises at ends was.ends passed.ends exact in
      let same : thread_of new.growth ≡ t = ap thread_of passed.growth in
      record {
        sum = subst (λ (u : Option ℕ). new.sum ≤ (n + 1) * step_of u) (sym same)
            (grow-sum (step_of t) was.sum rises step);
        starts = subst (λ (u : Option ℕ). IsRead (amount_for what u) first (done ++ turn ∷ []) next turn.time new.sum
            (most_of u) marks.starts.items new.starts.items) (sym same) starts_more;
        ends = subst (λ (u : Option ℕ). IsRead (amount_for what u) first (done ++ turn ∷ []) next turn.time new.sum
            (most_of u) marks.ends.items new.ends.items) (sym same) ends_more;
      }
    where
      one-more : (m k : ℕ) → (m + 1) * k ≡ m * k + k
      one-more m k = grind arith

      grow-sum : (step : ℕ) → {a : ℕ} → old.sum ≤ n * step → new.sum ≡ old.sum + a → a ≤ step → new.sum ≤ (n + 1) * step
      grow-sum step before rises adds = omega (arith, before, rises, adds, one-more n step)

-- the gauge stays one if it is renewed
pub gauge-renewed : (what : By) (marks : Marks) (first : State) (done : List TimedTurn) (n : ℕ) (s next : State)
    (time : ℕ) (old new : Gauge) → IsRenewed what next old new → IsGauge what marks first done n s time old
    → IsGauge what marks first done n s time new
gauge-renewed what marks first done n s next time old new renewed was = record {
  sum = by (λ (t : Option ℕ) (sum : ℕ) (starts ends : List ℕ). sum ≤ n * step_of t) was.sum;
  starts = by (λ (t : Option ℕ) (sum : ℕ) (starts ends : List ℕ).
      IsRead (amount_for what t) first done s time sum (most_of t) marks.starts.items starts) was.starts;
  ends = by (λ (t : Option ℕ) (sum : ℕ) (starts ends : List ℕ).
      IsRead (amount_for what t) first done s time sum (most_of t) marks.ends.items ends) was.ends;
}
  where
    by : (P : Option ℕ → ℕ → List ℕ → List ℕ → Type 0)
        → P (thread_of old.growth) old.sum old.starts.items old.ends.items
        → P (thread_of new.growth) new.sum new.starts.items new.ends.items
    by P p =
        subst (λ (t : Option ℕ). P t new.sum new.starts.items new.ends.items) (sym renewed.thread)
        (subst (λ sum. P (thread_of old.growth) sum new.starts.items new.ends.items) (sym renewed.sum)
        (subst (λ (xs : List ℕ). P (thread_of old.growth) old.sum xs new.ends.items) (sym renewed.starts)
        (subst (λ (xs : List ℕ). P (thread_of old.growth) old.sum old.starts.items xs) (sym renewed.ends) p)))
