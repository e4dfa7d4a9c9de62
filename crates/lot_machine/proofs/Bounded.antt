-- Live values stay within the value of base's active tickets, and a draw's total within a quantum times as much.
use Rattle.lot_machine.proofs.Common.{Asleep, Bool, Dead, FundsThere, HasNoCycle, IsSound, IsWithinBounds, None, Option, Queued, Ready, Receiving, Record, Running, RunsApart, Served, Some, State, Status, Waiting, ap, arith, at_number, base_value, cond, div-le_self, false, funding_of, is_backed, is_live, is_live_status, is_ready, length, live_of, live_value, mul-le-mul_left, mul-le-mul_right, numbers, option_and_then, option_any, option_map, own_value, ready_threads, refl, slice_get-map, status_of, suc, sum-map, sum_by, sym, total_weight, true, value_of, weight, weight_of, zero, ℕ, ◌*◌, ◌<◌, ◌^◌, ◌∙◌, ◌≡◌, ◌≤◌}
use Rattle.lot_machine.proofs.Sums.{sum-filter, sum-le, sum-times}
use Rattle.lot_machine.proofs.Tickets.{at_number-suc}
use Rattle.lot_machine.proofs.CountsOnce.{counts-once}
use Rattle.lot_machine.proofs.Flow.{owned-within}

-- what passes is no more than all
pub some-le : (b : Bool) (n : ℕ) → cond b n 0 ≤ n
some-le true n = omega arith
some-le false n = omega arith

-- a compensation makes a value no more than a quantum's times as large
weight-le : (value : ℕ) (compensation : Option ℕ) (quantum : ℕ) → 1 ≤ quantum
    → weight value compensation quantum ≤ value * quantum
weight-le value None quantum some = omega (arith, mul-le-mul_left value some)
weight-le value (Some used) quantum some = omega (arith, mul-le-mul_left value some, div-le_self (value * quantum) used)

ready-live_status : (status : Status) → is_ready status ≡ true → is_live_status status ≡ true
ready-live_status Ready e = refl
ready-live_status (Running p used) e = cc
ready-live_status (Receiving p) e = cc
ready-live_status (Queued p) e = cc
ready-live_status (Served t) e = cc
ready-live_status (Waiting m) e = cc
ready-live_status Asleep e = cc
ready-live_status Dead e = cc

module _ (s : State) where
  -- a Ready thread is live
  pub ready-live : (t : ℕ) → option_any is_ready (status_of s.records t) ≡ true → is_live (live_of s) t ≡ true
  ready-live zero e = cc
  ready-live (suc i) e =
      ap (option_any (λ flag. flag))
      (at_number-suc (live_of s) i ∙ slice_get-map (λ (r : Record). is_live_status r.status) s.records i
      ∙ ap (option_map (λ (r : Record). is_live_status r.status)) (sym (at_number-suc s.records i)))
      ∙ from (at_number s.records (suc i)) e
    where
      from : (o : Option Record) → option_any is_ready (option_map (λ (r : Record). r.status) o) ≡ true
          → option_any (λ flag. flag) (option_map (λ (r : Record). is_live_status r.status) o) ≡ true
      from None h = cc
      from (Some r) h = ready-live_status r.status h

  pub values-within : HasNoCycle (funding_of s) → FundsThere (funding_of s) → live_value s ≤ base_value s
  values-within no_cycle there =
      let own : ℕ → ℕ = own_value s.limits.unit (funding_of s) (live_of s) in
      let backed = sum-filter own (is_backed (funding_of s) (live_of s)) (numbers s.records) in
      let all = sum-le (λ t. cond (is_backed (funding_of s) (live_of s) t) (own t) 0) own (numbers s.records)
      (λ t. some-le (is_backed (funding_of s) (live_of s) t) (own t)) in
      omega (arith, counts-once s no_cycle, backed, all, owned-within (funding_of s) no_cycle there s.limits.unit (live_of s) (length s.records))

  pub weights-within : HasNoCycle (funding_of s) → FundsThere (funding_of s) → IsWithinBounds s.limits
      → total_weight s ≤ base_value s * s.limits.quantum
  weights-within no_cycle there bounds =
      let total = sum-map (weight_of s) (ready_threads s.records) in
      let ready = sum-filter (weight_of s) (λ t. option_any is_ready (status_of s.records t)) (numbers s.records) in
      let each = sum-le (λ t. cond (option_any is_ready (status_of s.records t)) (weight_of s t) 0)
      (λ t. cond (is_live (live_of s) t) (value_of s t) 0 * s.limits.quantum) (numbers s.records)
      (λ t. one t (option_any is_ready (status_of s.records t)) refl) in
      let times = sum-times (λ t. cond (is_live (live_of s) t) (value_of s t) 0) s.limits.quantum (numbers s.records) in
      let live : live_value s * s.limits.quantum ≡ sum_by (λ t.
      cond (is_live (live_of s) t) (value_of s t) 0) (numbers s.records) * s.limits.quantum =
      ap (λ n. n * s.limits.quantum) (sum-filter (value_of s) (is_live (live_of s)) (numbers s.records)) in
      let within : live_value s * s.limits.quantum ≤ base_value s * s.limits.quantum =
      mul-le-mul_right s.limits.quantum (values-within no_cycle there) in
      omega (arith, total, ready, each, times, live, within)
    where
      one : (t : ℕ) (b : Bool) → option_any is_ready (status_of s.records t) ≡ b
          → cond b (weight_of s t) 0 ≤ cond (is_live (live_of s) t) (value_of s t) 0 * s.limits.quantum
      one t true here = rw (ready-live t here) (weight-le (value_of s t)
          (option_and_then (λ r. r.compensation) (at_number s.records t)) s.limits.quantum bounds.of_quantum.0)
      one t false here = omega arith

  pub sound : HasNoCycle (funding_of s) → FundsThere (funding_of s) → IsWithinBounds s.limits → RunsApart s.records
      → base_value s < 2 ^ 56 → IsSound s
  sound no_cycle there bounds apart base =
      let quantum : base_value s * s.limits.quantum ≤ base_value s * 1000 =
      mul-le-mul_left (base_value s) bounds.of_quantum.1 in
      let small : base_value s < 72057594037927936 = base in
      let weights : total_weight s < 73786976294838206464 =
      omega (arith, weights-within no_cycle there bounds, quantum, small) in
      record { no_cycle = no_cycle; funds_there = there; runs_apart = apart; counts_once = counts-once s no_cycle; bounded = record { values = values-within no_cycle there; base = base; weights = weights } }
