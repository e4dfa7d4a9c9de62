-- The weight of a compensated thread, and the ticks that it runs over all numbers of a draw.
use Rattle.lot_laws.proofs.Common.{Action, After, Bool, Drawn, Effect, IsJustBelow, Leaves, List, None, NotRunning, Option, Ready, Record, Running, Some, State, Status, Step, Yield, after_trap, ap, arith, at_number, at_number-suc, change_record, checked-sizes, checked_effect, compensation_of, cond, div-add-mod', div-le_self, div_below, draw, false, finish_trap, found-runs, get_or, inl, inr, is_bad_processor, le-div, length, lt-ltb, max, min, mod-lt, mul-div_cancel, nat_lt, option_and_then, range_with_len, record-now, record-of, refl, slice_get, slice_get_cases, slice_get_within, status-now, status_of, step, subst, suc, sum-same, sum-times, sym, thread_on, thread_wins, ticks_in_all_parts, ticks_in_part, ticks_of, total_weight, trap_effect, trap_refusal, true, used_there, value_of, weight, weight_of, with_ticks, zero, ℕ, [], ◌%◌, ◌*◌, ◌+◌, ◌-◌, ◌/◌, ◌<◌, ◌∙◌, ◌∷◌, ◌≡◌, ◌≤◌, ◌⊎◌}
use Rattle.lot_machine.specs.declared.event.Event.TheVariants as event
use Rattle.lot_machine.specs.declared.reply.Reply.TheVariants as answer
use Rattle.lot_machine.specs.declared.reply.Outcome.TheVariants as outcome
use Rattle.lot_laws.proofs.AllDraws.{thread-of}
use Rattle.lot_laws.proofs.RoundKept.{begun, begun-found, begun-used, draw-either, nothing-drawn, value-kept, value-same, won}
use Rattle.lot_laws.proofs.RoundRuns.{TellsRound, draws-as, named-ticks, traps-as, two-tell, unwon-tells, won-tells, yields-as, yields-nobody}

-- ---- weights

-- one at least, if there is something
max-some : (value q : ℕ) → (0 < value → 1 ≤ q) → max (min value 1) q ≡ q
max-some zero q some = omega arith
max-some (suc v) q some = omega (arith, some (omega arith))

-- what is worth something is worth as many ticks as a part of a quantum has
pub enough : (used quantum value : ℕ) → used ≤ quantum → 0 < value → used ≤ value * quantum
enough used quantum zero high none = absurd (omega (arith, none))
enough used quantum (suc v) high some = omega (arith, high)

-- a compensation scales the value to a whole quantum
scaled : (value used quantum : ℕ) → 0 < used → (0 < value → used ≤ value * quantum)
    → weight value (Some used) quantum ≡ value * quantum / used
scaled value used quantum low high =
    max-some value (value * quantum / used)
    (λ some. le-div 1 (value * quantum) used low (once used (value * quantum) (high some)))
  where
    once : (n whole : ℕ) → n ≤ whole → 1 * n ≤ whole
    once n whole within = omega (arith, within)

-- so weight times ticks is the value times the quantum, but for a rest
pub weighs-part : (value used quantum : ℕ) → 0 < used → (0 < value → used ≤ value * quantum)
    → IsJustBelow (value * quantum) used (weight value (Some used) quantum * used)
weighs-part value used quantum low high =
    subst (λ w. IsJustBelow (value * quantum) used (w * used)) (sym (scaled value used quantum low high))
    (below (value * quantum / used * used) (value * quantum % used) (value * quantum)
    (div-add-mod' (value * quantum) used) (mod-lt (value * quantum) low))
  where
    below : (product rest whole : ℕ) → product + rest ≡ whole → rest < used → IsJustBelow whole used product
    below product rest whole is less =
        record { most = omega (arith, is); least = omega (arith, is, less) }

-- a whole quantum weighs as no compensation does
pub weighs-whole : (value quantum : ℕ) → 0 < quantum → weight value (Some quantum) quantum ≡ value
weighs-whole value quantum some =
    scaled value quantum quantum some (enough quantum quantum value (itself quantum)) ∙ mul-div_cancel value some
  where
    itself : (n : ℕ) → n ≤ n
    itself n = omega arith

-- more ticks than the value makes up for
pub weighs-one : (value used quantum : ℕ) → 0 < value → value * quantum < used
    → weight value (Some used) quantum ≡ 1
weighs-one value used quantum some late =
    let none : value * quantum / used < 1 =
    div_below (value * quantum) used 1 (omega (arith, late)) (omega (arith, late)) in
    one value (value * quantum / used) some none
  where
    one : (v q : ℕ) → 0 < v → q < 1 → max (min v 1) q ≡ 1
    one v q some none = omega (arith, some, none)

-- without compensation, or without value
pub weighs-value : (value quantum : ℕ) (compensation : Option ℕ) → (0 < value → compensation ≡ None)
    → weight value compensation quantum ≡ value
weighs-value value quantum None plain = refl
weighs-value zero quantum (Some used) plain =
    nothing (0 * quantum / used) (div-le_self (0 * quantum) used)
  where
    nothing : (q : ℕ) → q ≤ 0 * quantum → max (min 0 1) q ≡ 0
    nothing q low = omega (arith, low)
weighs-value (suc v) quantum (Some used) plain =
    let never : Some used ≡ None = plain (omega arith) in cc

-- ---- the next draw

module _ (s : State) (p t used : ℕ) (exists : is_bad_processor s p ≡ false) (free : thread_on s.records p ≡ None)
    (low : 0 < used) (high : used ≤ s.limits.quantum) where
  part-whole : used - 1 + 1 ≡ used
  part-whole = omega (arith, low)

  from-nothing : 0 + (used - 1) + 1 ≡ used
  from-nothing = omega (arith, low)

  -- the ticks of a draw with this number
  one-part : (d : ℕ) → ticks_in_part s p t used d ≡ cond (thread_wins s p t d) used 0
  one-part d = by (draw-either s p d)
    where
      from : (first second : Step) → step s (event.Draw p d) ≡ first
          → step first.state (event.Trap p (used - 1) Yield) ≡ second
          → TellsRound s p d (λ u. used) first.reply second.reply
          → ticks_in_part s p t used d ≡ cond (thread_wins s p t d) used 0
      from first second one two tells =
          ap (λ (x : Step). ticks_of t (x.reply ∷ (step x.state (event.Trap p (used - 1) Yield)).reply ∷ [])) one
          ∙ ap (λ (x : Step). ticks_of t (first.reply ∷ x.reply ∷ [])) two
          ∙ two-tell t used first.reply second.reply (thread_wins s p t d) (tells.nothing t) (tells.runs t)

      by : (draw s p d ≡ nothing-drawn s)
          ⊎ ((u : ℕ) × ((w : Drawn) × ((status_of s.records u ≡ Some Ready) × (draw s p d ≡ won s p u w))))
          → ticks_in_part s p t used d ≡ cond (thread_wins s p t d) used 0
      by (inl is) =
          from (nothing-drawn s) (record { state = s; reply = answer.Refused NotRunning })
          (draws-as s p exists d free ∙ is) (yields-nobody s p exists (used - 1) free)
          (unwon-tells s p d (λ u. used) is)
      by (inr (u, (w, (ready, is)))) =
          let whole : used_there (begun s p u) p + (used - 1) + 1 ≡ used =
          ap (λ n. n + (used - 1) + 1) (begun-used s p u free ready) ∙ from-nothing in
          let effect : Effect = record { state = begun s p u; outcome = outcome.Yielded; after = Leaves Ready } in
          from (won s p u w) (finish_trap (begun s p u) p u (used - 1 + 1) used effect)
          (draws-as s p exists d free ∙ is)
          (yields-as (begun s p u) p exists u (used - 1) used (begun-found s p u free ready) whole high)
          (won-tells s p d (λ v. used) u w (answer.Trapped u (used - 1 + 1) outcome.Yielded false) is (λ v. refl)
          (λ v. named-ticks (λ x. used) u v (used - 1 + 1) part-whole))

  -- over all numbers
  pub all-parts : status_of s.records t ≡ Some Ready → compensation_of s t ≡ Some used
      → IsJustBelow (value_of s t * s.limits.quantum) used (ticks_in_all_parts s p t used)
  all-parts ready compensated =
      let sum_is : ticks_in_all_parts s p t used ≡ weight_of s t * used =
      sum-same (ticks_in_part s p t used) (λ d. cond (thread_wins s p t d) 1 0 * used)
      (range_with_len 0 (total_weight s)) (λ d. one-part d ∙ times (thread_wins s p t d))
      ∙ sum-times (λ d. cond (thread_wins s p t d) 1 0) used (range_with_len 0 (total_weight s))
      ∙ ap (λ w. w * used) (thread-of s p t ready) in
      subst (IsJustBelow (value_of s t * s.limits.quantum) used) (sym sum_is)
      (subst (λ o. IsJustBelow (value_of s t * s.limits.quantum) used
      (weight (value_of s t) o s.limits.quantum * used)) (sym compensated)
      (weighs-part (value_of s t) used s.limits.quantum low (enough used s.limits.quantum (value_of s t) high)))
    where
      times : (b : Bool) → cond b used 0 ≡ cond b 1 0 * used
      times true = omega arith
      times false = omega arith

-- ---- a thread that leaves its processor by a trap

-- in a table as long as another there is a record where the other has one
same-length : (before now : List Record) (t : ℕ) (r : Record) → length now ≡ length before
    → at_number before t ≡ Some r → (x : Record) × (at_number now t ≡ Some x)
same-length before now zero r long there = cc
same-length before now (suc i) r long there =
    let below : i < length before = slice_get_within before i r (sym (at_number-suc before i) ∙ there) in
    from (slice_get_cases now i).1 (omega (arith, below, long))
  where
    from : ((x : Record) × (i < length now) × (slice_get now i ≡ Some x) × (get_or now i x ≡ x))
        ⊎ ((length now ≤ i) × (slice_get now i ≡ None)) → i < length now
        → (x : Record) × (at_number now (suc i) ≡ Some x)
    from (inl (x, _, here, _)) below = (x, at_number-suc now i ∙ here)
    from (inr (past, _)) below = absurd (omega (arith, past, below))

module _ (s : State) (p t ran used : ℕ) (exists : is_bad_processor s p ≡ false)
    (found : thread_on s.records p ≡ Some t) (compensates : s.limits.without_compensation ≡ false)
    (whole : used_there s p + ran + 1 ≡ used) (part : used < s.limits.quantum) where
  abbrev leaves : Status → Record → Record
  leaves status r = with_ticks (ran + 1) (after_trap (Leaves status) p used s.limits r)

  compensates-by : (status : Status) (r : Record) → (leaves status r).compensation ≡ Some used
  compensates-by status r =
      let early : nat_lt used s.limits.quantum ≡ true = lt-ltb used s.limits.quantum part in
      rw early (rw compensates refl)

  within : used ≤ s.limits.quantum
  within = omega (arith, part)

  runs : (before : ℕ) × (status_of s.records t ≡ Some (Running p before))
  runs = found-runs s.records p t found

  -- by any trap
  module _ (action : Action) (status : Status) (passed : trap_refusal s t action ≡ None)
      (leaving : (trap_effect s t action).after ≡ Leaves status) where
    -- it still has a record
    still : (r : Record) × (at_number (trap_effect s t action).state.records t ≡ Some r)
    still =
        let r = record-of s.records t (Running p runs.0) runs.1 in
        same-length s.records (trap_effect s t action).state.records t r.0
        (checked-sizes s t action None).1 r.1

    pub leaves-compensated : compensation_of (step s (event.Trap p ran action)).state t ≡ Some used
    leaves-compensated =
        let r = still in
        let change : After → Record → Record = λ a x. with_ticks (ran + 1) (after_trap a p used s.limits x) in
        ap (λ (x : Step). compensation_of x.state t) (traps-as s p exists t ran used action found whole within)
        ∙ ap (λ o. compensation_of (finish_trap s p t (ran + 1) used
        (checked_effect s o (trap_effect s t action))).state t) passed
        ∙ ap (option_and_then (λ (x : Record). x.compensation))
        (record-now (change (trap_effect s t action).after) (trap_effect s t action).state.records t r.0 r.1)
        ∙ ap (λ a. (change a r.0).compensation) leaving
        ∙ compensates-by status r.0

  -- by a yield
  abbrev after : State
  after = record s { records = change_record (leaves Ready) s.records t }

  after-is : (step s (event.Trap p ran Yield)).state ≡ after
  after-is = ap (λ (x : Step). x.state) (yields-as s p exists t ran used found whole within)

  value-after : value_of after t ≡ value_of s t
  value-after =
      let kept = value-kept s (leaves Ready) t (Running p runs.0) Ready runs.1 (λ r. refl) refl refl in
      value-same s after refl kept.0 kept.1 t

  compensated-after : compensation_of after t ≡ Some used
  compensated-after =
      let r = record-of s.records t (Running p runs.0) runs.1 in
      ap (option_and_then (λ (x : Record). x.compensation)) (record-now (leaves Ready) s.records t r.0 r.1)
      ∙ compensates-by Ready r.0

  weighs-after : IsJustBelow (value_of s t * s.limits.quantum) used (weight_of after t * used)
  weighs-after =
      let weight_is : weight_of after t ≡ weight (value_of s t) (Some used) s.limits.quantum =
      ap (λ v. weight v (compensation_of after t) s.limits.quantum) value-after
      ∙ ap (λ o. weight (value_of s t) o s.limits.quantum) compensated-after in
      subst (λ w. IsJustBelow (value_of s t * s.limits.quantum) used (w * used)) (sym weight_is)
      (weighs-part (value_of s t) used s.limits.quantum (some whole)
      (enough used s.limits.quantum (value_of s t) within))
    where
      some : used_there s p + ran + 1 ≡ used → 0 < used
      some is = omega (arith, is)

  pub yielded : (status_of (step s (event.Trap p ran Yield)).state.records t ≡ Some Ready)
      × IsJustBelow (value_of s t * s.limits.quantum) used (weight_of (step s (event.Trap p ran Yield)).state t * used)
  yielded =
      subst (λ (a : State). (status_of a.records t ≡ Some Ready)
      × IsJustBelow (value_of s t * s.limits.quantum) used (weight_of a t * used)) (sym after-is)
      (status-now (leaves Ready) s.records t (Running p runs.0) Ready runs.1 (λ r. refl), weighs-after)
