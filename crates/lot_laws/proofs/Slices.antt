-- Rounds in which each winner yields after its slice of the quantum: ticks in proportion to value, up to rounding.
use Rattle.lot_laws.proofs.Common.{Bool, Drawn, Event, IsBetweenSlices, IsJustBelow, Leaves, List, None, NotRunning, Ready, Record, Some, State, Step, Yield, after_trap, all_draws, ap, arith, draw, false, inl, inr, is_bad_processor, ltb-false, nat_lt, record-of, refl, replies_in_slices, started, status_of, step, subst, sum-same, sum-times, sum_by, sym, thread_on, thread_there, thread_wins, ticks_of, total_weight, true, unwrap_or, used_there, value_of, weight, weight_of, win_count, with_ticks, ℕ, [], ◌*◌, ◌+◌, ◌-◌, ◌<◌, ◌^◌, ◌∙◌, ◌∷◌, ◌≡◌, ◌≤◌, ◌⊎◌}
use Rattle.lot_machine.specs.declared.event.Event.TheVariants as event
use Rattle.lot_machine.specs.declared.reply.Reply.TheVariants as answer
use Rattle.lot_machine.specs.declared.reply.Outcome.TheVariants as outcome
use Rattle.lot_laws.proofs.AllDraws.{all-of, thread-of}
use Rattle.lot_laws.proofs.Compensated.{enough, weighs-part, weighs-whole}
use Rattle.lot_laws.proofs.RoundKept.{SameDraws, begun, begun-found, begun-used, draw-either, left, left-compensation, left-free, left-same, left-values, nothing-drawn, same-itself, won}
use Rattle.lot_laws.proofs.RoundRuns.{IsRound, draws-as, first-of, named-ticks, round-by, run-ticks, run-wins, second-of, told, unwon-tells, won-tells, yields-as, yields-nobody}

-- the event by which the thread on the processor yields after its slice
abbrev slice-end : (ℕ → ℕ) → ℕ → State → Event
slice-end slices p s = event.Trap p (slices (thread_there s p) - 1) Yield

slices-told : (slices : ℕ → ℕ) (p : ℕ) (s : State) (draws : List ℕ)
    → replies_in_slices slices s p draws ≡ told (slice-end slices p) p s draws
slices-told slices p s [] = refl
slices-told slices p s (d ∷ draws) =
    ap (λ rest. (first-of p s d).reply ∷ (second-of (slice-end slices p) p s d).reply ∷ rest)
    (slices-told slices p (second-of (slice-end slices p) p s d).state draws)

-- the record of a thread that yields after these ticks
abbrev yields : State → ℕ → ℕ → Record → Record
yields s p slice r = with_ticks (slice - 1 + 1) (after_trap (Leaves Ready) p slice s.limits r)

-- what it weighs then, if it weighed as much
slice-weighs : (s : State) (p slice value : ℕ) (r : Record) → s.limits.without_compensation ≡ false → 0 < slice
    → slice ≤ s.limits.quantum → weight value (yields s p slice r).compensation s.limits.quantum
    ≡ weight value (Some slice) s.limits.quantum
slice-weighs s p slice value r compensates some within = by (nat_lt slice s.limits.quantum) refl
  where
    by : (b : Bool) → nat_lt slice s.limits.quantum ≡ b
        → weight value (yields s p slice r).compensation s.limits.quantum ≡ weight value (Some slice) s.limits.quantum
    by true early =
        let gets : (yields s p slice r).compensation ≡ Some slice = rw early (rw compensates refl) in
        ap (λ o. weight value o s.limits.quantum) gets
    by false late =
        let gets : (yields s p slice r).compensation ≡ None = rw late refl in
        let whole : slice ≡ s.limits.quantum = omega (arith, ltb-false slice s.limits.quantum late, within) in
        ap (λ o. weight value o s.limits.quantum) gets
        ∙ sym (weighs-whole value s.limits.quantum (subst (λ n. 0 < n) whole some))
        ∙ ap (λ n. weight value (Some n) s.limits.quantum) (sym whole)

slices-stay : (slices : ℕ → ℕ) (p : ℕ) (s after : State) → IsBetweenSlices slices s p → SameDraws s after
    → thread_on after.records p ≡ None → IsBetweenSlices slices after p
slices-stay slices p s after between same free = record {
  exists = ap (λ l. is_bad_processor (record s { limits = l }) p) same.limits ∙ between.exists;
  free = free;
  compensates = ap (λ l. l.without_compensation) same.limits ∙ between.compensates;
  within = λ t ready. subst (λ l. (0 < slices t) × (slices t ≤ l.quantum)) (sym same.limits)
      (between.within t (sym (same.lottery.statuses t) ∙ ready));
  weighs = λ t ready. same.lottery.weights t ∙ between.weighs t (sym (same.lottery.statuses t) ∙ ready)
      ∙ ap (λ v. weight v (Some (slices t)) s.limits.quantum) (sym (same.values t))
      ∙ ap (λ l. weight (value_of after t) (Some (slices t)) l.quantum) (sym same.limits);
}

module _ (slices : ℕ → ℕ) (s : State) (p d : ℕ) (between : IsBetweenSlices slices s p) where
  same-weight : (t : ℕ) → status_of s.records t ≡ Some Ready
      → weight_of (left s p t (yields s p (slices t))) t ≡ weight_of s t
  same-weight t ready =
      let r = record-of s.records t Ready ready in
      let within = between.within t ready in
      ap (λ o. weight (value_of (left s p t (yields s p (slices t))) t) o s.limits.quantum)
      (left-compensation s p t between.free ready (yields s p (slices t)) (λ x. refl) r.0 r.1)
      ∙ ap (λ v. weight v (yields s p (slices t) (started p r.0)).compensation s.limits.quantum)
      (left-values s p t between.free ready (yields s p (slices t)) (λ x. refl) t)
      ∙ slice-weighs s p (slices t) (value_of s t) (started p r.0) between.compensates within.0 within.1
      ∙ sym (between.weighs t ready)

  is-slice : IsRound s p d slices (first-of p s d) (second-of (slice-end slices p) p s d)
  is-slice = by (draw-either s p d)
    where
      exists : is_bad_processor s p ≡ false
      exists = between.exists

      free : thread_on s.records p ≡ None
      free = between.free

      by : (draw s p d ≡ nothing-drawn s)
          ⊎ ((t : ℕ) × ((w : Drawn) × ((status_of s.records t ≡ Some Ready) × (draw s p d ≡ won s p t w))))
          → IsRound s p d slices (first-of p s d) (second-of (slice-end slices p) p s d)
      by (inl is) =
          round-by s p d slices (slice-end slices p) (nothing-drawn s)
          (record { state = s; reply = answer.Refused NotRunning }) (draws-as s p exists d free ∙ is)
          (yields-nobody s p exists (slices (thread_there s p) - 1) free)
          (record { tells = unwon-tells s p d slices is; same = same-itself s; free = free })
      by (inr (u, (w, (ready, is)))) =
          let found = begun-found s p u free ready in
          let within = between.within u ready in
          let part : slices u - 1 + 1 ≡ slices u = back (slices u) within.0 in
          let used : used_there (begun s p u) p + (slices u - 1) + 1 ≡ slices u =
          ap (λ n. n + (slices u - 1) + 1) (begun-used s p u free ready) ∙ from-nothing (slices u) within.0 in
          let there : thread_there (begun s p u) p ≡ u = ap (λ o. unwrap_or o 0) found in
          let second : Step = record {
            state = left s p u (yields s p (slices u));
            reply = answer.Trapped u (slices u - 1 + 1) outcome.Yielded false;
          } in
          round-by s p d slices (slice-end slices p) (won s p u w) second (draws-as s p exists d free ∙ is)
          (ap (λ v. step (begun s p u) (event.Trap p (slices v - 1) Yield)) there
          ∙ yields-as (begun s p u) p exists u (slices u - 1) (slices u) found used within.1)
          (record {
            tells = won-tells s p d slices u w (answer.Trapped u (slices u - 1 + 1) outcome.Yielded false) is
                (λ t. refl) (λ t. named-ticks slices u t (slices u - 1 + 1) part);
            same = left-same s p u free ready (yields s p (slices u)) (λ x. refl) (same-weight u ready);
            free = left-free s p u free ready (yields s p (slices u)) (λ x. refl);
          })
        where
          back : (n : ℕ) → 0 < n → n - 1 + 1 ≡ n
          back n some = omega (arith, some)

          from-nothing : (n : ℕ) → 0 < n → 0 + (n - 1) + 1 ≡ n
          from-nothing n some = omega (arith, some)

-- ---- over all draws

module _ (slices : ℕ → ℕ) (s : State) (p : ℕ) (between : IsBetweenSlices slices s p) where
  slices-ticks : (t : ℕ) (draws : List ℕ)
      → ticks_of t (replies_in_slices slices s p draws) ≡ win_count (thread_wins s p t) draws * slices t
  slices-ticks t draws =
      ap (ticks_of t) (slices-told slices p s draws)
      ∙ run-ticks (slice-end slices p) p slices (λ a. IsBetweenSlices slices a p)
      (λ a so d. is-slice slices a p d so) (slices-stay slices p) s between t draws
      ∙ ap (λ n. n * slices t) (run-wins (slice-end slices p) p slices (λ a. IsBetweenSlices slices a p)
      (λ a so d. is-slice slices a p d so) (slices-stay slices p) s between t draws)

  module _ (t : ℕ) (ready : status_of s.records t ≡ Some Ready) where
    pub slices-all : (n : ℕ)
        → sum_by (λ draws. ticks_of t (replies_in_slices slices s p draws)) (all_draws (total_weight s) n)
        ≡ n * (weight_of s t * slices t) * total_weight s ^ (n - 1)
    slices-all n =
        sum-same (λ draws. ticks_of t (replies_in_slices slices s p draws))
        (λ draws. win_count (thread_wins s p t) draws * slices t) (all_draws (total_weight s) n) (slices-ticks t)
        ∙ sum-times (win_count (thread_wins s p t)) (slices t) (all_draws (total_weight s) n)
        ∙ ap (λ m. m * slices t)
        (all-of (thread_wins s p t) (total_weight s) (weight_of s t) (thread-of s p t ready) n)
        ∙ turned n (weight_of s t) (total_weight s ^ (n - 1)) (slices t)
      where
        turned : (a w b k : ℕ) → a * w * b * k ≡ a * (w * k) * b
        turned a w b k = omega arith

    pub slices-share : IsJustBelow (value_of s t * s.limits.quantum) (slices t) (weight_of s t * slices t)
    slices-share =
        let within = between.within t ready in
        subst (λ w. IsJustBelow (value_of s t * s.limits.quantum) (slices t) (w * slices t))
        (sym (between.weighs t ready))
        (weighs-part (value_of s t) (slices t) s.limits.quantum within.0
        (enough (slices t) s.limits.quantum (value_of s t) within.1))
