-- The Ready threads inside weigh at most what the live threads inside are worth, times a quantum over the ticks used.
use Rattle.lot_laws.proofs.Common.{Asleep, Bool, Currency, Dead, EnclosesAlone, IsReachable, Node, NoneCompensated, None, Option, Ready, Receiving, Running, Served, Some, State, Status, Thread, Waiting, ap, arith, cases_lt, compensation_in, cond, false, funding_of, inl, inr, is_live, live_of, mul-le-mul_right, mul_comm, numbers, option_any, ready_inside, ready_threads, refl, status_of, subst, sum-filter, sum-le, sum-same, sum_by, sym, ticks_counted, true, unwrap_or, value_inside, value_of, weighed_ticks, weight_inside, weight_of, worth_in, ℕ, ◌&&◌, ◌*◌, ◌/◌, ◌<◌, ◌∙◌, ◌≡◌, ◌≢◌, ◌≤◌, ◌⊎◌}
use Rattle.std.proofs.Math.Nat.{div-le_of_le-mul, div-le_self, div-mul-le_self, min-le_left, min-le_right, mul-le-mul, mul-le-mul_left}
use Rattle.std.specs.Prelude.{max, min}
use Rattle.lot_machine.specs.declared.record.Status.TheVariants.{Queued}
use Rattle.lot_machine.specs.Lottery.{weight}
use Rattle.lot_machine.specs.State.{is_ready}
use Rattle.lot_machine.proofs.Bounded.{ready-live}
use Rattle.lot_machine.proofs.Sums.{sum-times}
use Rattle.lot_laws.proofs.EachTicket.{reachable-order}
use Rattle.lot_laws.proofs.ValueInside.{value-within}

-- ---- one weight

most : (a b k m : ℕ) → a * k ≤ m → b * k ≤ m → max a b * k ≤ m
most a b k m one other = by (cases_lt a b)
  where
    by : (a < b) ⊎ (b ≤ a) → max a b * k ≤ m
    by (inl less) = let e : max a b ≡ b = omega arith in subst (λ x. x * k ≤ m) (sym e) other
    by (inr no_less) = let e : max a b ≡ a = omega arith in subst (λ x. x * k ≤ m) (sym e) one

-- a weight times the ticks used, but at most a quantum, is no more than the value times the quantum
weight-ticks : (value : ℕ) (used : Option ℕ) (quantum : ℕ)
    → weight value used quantum * min (unwrap_or used quantum) quantum ≤ value * quantum
weight-ticks value None quantum = mul-le-mul_left value (min-le_right quantum quantum)
weight-ticks value (Some used) quantum = by (cases_lt quantum used)
  where
    by : (quantum < used) ⊎ (used ≤ quantum)
        → weight value (Some used) quantum * min used quantum ≤ value * quantum
    by (inl late) =
        let within : quantum ≤ used = omega arith in
        let most_of : value * quantum ≤ used * value =
        subst (λ n. value * quantum ≤ n) (mul_comm value used) (mul-le-mul_left value within) in
        let part : value * quantum / used ≤ value = div-le_of_le-mul used most_of in
        let light : weight value (Some used) quantum ≤ value = omega (arith, part) in
        mul-le-mul light (min-le_right used quantum)
    by (inr within) =
        let whole : weight value (Some used) quantum * used ≤ value * quantum =
        most (min value 1) (value * quantum / used) used (value * quantum)
        (mul-le-mul (min-le_left value 1) within) (div-mul-le_self (value * quantum) used) in
        let less = mul-le-mul_left (weight value (Some used) quantum) (min-le_left used quantum) in
        omega (arith, whole, less)

weight-le : (value : ℕ) (compensation : Option ℕ) (quantum : ℕ) → 1 ≤ quantum
    → weight value compensation quantum ≤ value * quantum
weight-le value None quantum some = omega (arith, mul-le-mul_left value some)
weight-le value (Some used) quantum some = omega (arith, mul-le-mul_left value some, div-le_self (value * quantum) used)

pub ready-is : (o : Option Status) → option_any is_ready o ≡ true → o ≡ Some Ready
ready-is None e = cc
ready-is (Some Ready) e = refl
ready-is (Some (Running p used)) e = cc
ready-is (Some (Receiving p)) e = cc
ready-is (Some (Queued p)) e = cc
ready-is (Some (Served t)) e = cc
ready-is (Some (Waiting m)) e = cc
ready-is (Some Asleep) e = cc
ready-is (Some Dead) e = cc

-- ---- all of them

module _ (s : State) (inside : Node → Bool) where
  -- a sum over the Ready threads inside, as one over all threads
  spread : (g : ℕ → ℕ) → sum_by g (ready_inside s inside)
      ≡ sum_by (λ t. cond (option_any is_ready (status_of s.records t)) (cond (inside (Thread t)) (g t) 0) 0)
      (numbers s.records)
  spread g = sum-filter g (λ t. inside (Thread t)) (ready_threads s.records)
      ∙ sum-filter (λ t. cond (inside (Thread t)) (g t) 0) (λ t. option_any is_ready (status_of s.records t))
      (numbers s.records)

  ready-le : (a b i : Bool) (w : ℕ) → (a ≡ true → b ≡ true) → cond a (cond i w 0) 0 ≤ cond (b && i) w 0
  ready-le true b i w is = rw (is refl) (omega arith)
  ready-le false b i w is = omega arith

  ready-values : sum_by (value_of s) (ready_inside s inside) ≤ value_inside s inside
  ready-values =
      omega (
        arith,
        spread (value_of s),
        sum-filter (value_of s) (λ t. is_live (live_of s) t && inside (Thread t)) (numbers s.records),
        sum-le
            (λ t. cond (option_any is_ready (status_of s.records t)) (cond (inside (Thread t)) (value_of s t) 0) 0)
            (λ t. cond (is_live (live_of s) t && inside (Thread t)) (value_of s t) 0) (numbers s.records)
            (λ t. ready-le (option_any is_ready (status_of s.records t)) (is_live (live_of s) t) (inside (Thread t))
            (value_of s t) (ready-live s t)),
      )

  uncompensated : NoneCompensated s inside → weight_inside s inside ≡ sum_by (value_of s) (ready_inside s inside)
  uncompensated none =
      spread (weight_of s)
      ∙ sum-same
      (λ t. cond (option_any is_ready (status_of s.records t)) (cond (inside (Thread t)) (weight_of s t) 0) 0)
      (λ t. cond (option_any is_ready (status_of s.records t)) (cond (inside (Thread t)) (value_of s t) 0) 0)
      (numbers s.records) (λ t. each t (option_any is_ready (status_of s.records t)) (inside (Thread t)) refl refl)
      ∙ sym (spread (value_of s))
    where
      each : (t : ℕ) (a b : Bool) → option_any is_ready (status_of s.records t) ≡ a → inside (Thread t) ≡ b
          → cond a (cond b (weight_of s t) 0) 0 ≡ cond a (cond b (value_of s t) 0) 0
      each t true true ready is_in = ap (λ k. weight (value_of s t) k s.limits.quantum)
          (none t is_in (ready-is (status_of s.records t) ready))
      each t true false ready is_in = refl
      each t false b ready is_in = refl

module _ (s : State) (c : ℕ) (inside : Node → Bool) (reachable : IsReachable s) (user : c ≢ 0)
    (alone : EnclosesAlone (funding_of s) c inside) where
  values : sum_by (value_of s) (ready_inside s inside) ≤ worth_in s (Currency c)
  values = omega (arith, ready-values s inside, value-within s reachable c inside user alone)

  -- what is at most the values times a quantum
  times-quantum : (g : ℕ → ℕ) → ((t : ℕ) → g t ≤ value_of s t * s.limits.quantum)
      → sum_by g (ready_inside s inside) ≤ worth_in s (Currency c) * s.limits.quantum
  times-quantum g le =
      let times = sum-times (value_of s) s.limits.quantum (ready_inside s inside) in
      let all = sum-le g (λ t. value_of s t * s.limits.quantum) (ready_inside s inside) le in
      let within = mul-le-mul_right s.limits.quantum values in
      omega (arith, times, all, within)

  pub weight-within : NoneCompensated s inside → weight_inside s inside ≤ worth_in s (Currency c)
  weight-within none = omega (arith, values, uncompensated s inside none)

  pub compensated-within : weight_inside s inside ≤ worth_in s (Currency c) * s.limits.quantum
  compensated-within = times-quantum (weight_of s) (λ t.
      weight-le (value_of s t) (compensation_in s t) s.limits.quantum (reachable-order s reachable).bounds.of_quantum.0)

  pub ticks-within : weighed_ticks s inside ≤ worth_in s (Currency c) * s.limits.quantum
  ticks-within = times-quantum (λ t. weight_of s t * ticks_counted s t)
      (λ t. weight-ticks (value_of s t) (compensation_in s t) s.limits.quantum)
