-- Two runs from states that differ only inside a currency, which themselves differ only inside, end in such states.
use Rattle.lot_laws.proofs.Common.{AgreeOutside, AllAlike, AreAlike, Bool, DifferInside, Encloses, EndOutside, EndsTurn, Event, Funding, IsChangeInside, IsReachable, Leaves, Lend, List, Node, None, NotRunning, BadProcessor, BadTicks, Option, Ready, Record, Refusal, Running, SameOutside, SetTicket, Sizes, Some, State, Step, Thread, WinOutside, active_amount, after_trap, amount_in, ap, at_number, at_number-map, cases_eq, change_record, compensation_for, draw, eqb-true, event_refusal, false, first_failing, first_runs, found-runs, funding_of, inl, inr, is_live_status, is_none, lend_of, live_of, map, map-set, nat_lt, nat_le, number-kept, numbers, option_and_then, option_any, option_map, ready_threads, record-now, record-other, refl, second_runs, set_number, slice_index, some-injective, started, state_after, status_of, step, subst, sym, thread_on, true, unless_refused, unwrap_or, used_there, weight_of, winner, with_ticks, ℕ, [], ◌++◌, ◌+◌, ◌-◌, ◌<◌, ◌==◌, ◌^◌, ◌||◌, ◌∙◌, ◌∷◌, ◌≡◌, ◌⊎◌}
use Rattle.lot_machine.specs.declared.drawn.Drawn.{Drawn}
use Rattle.lot_machine.specs.declared.event.Event.TheVariants as event
use Rattle.lot_machine.specs.declared.reply.Reply.{Reply}
use Rattle.lot_machine.specs.declared.reply.Reply.TheVariants as answer
use Rattle.lot_machine.specs.declared.reply.Outcome.TheVariants as outcome
use Rattle.lot_machine.specs.Facts.{is_won_by}
use Rattle.lot_machine.specs.State.{is_ready, used_by, used_on}
use Rattle.lot_machine.proofs.Idle.{filter-passes, index-holds}
use Rattle.lot_laws.proofs.StaysInside.{reachable-run}
use Rattle.lot_laws.proofs.SetTwice.{set-both}
use Rattle.lot_laws.proofs.TwoStates.{agrees, itself, joined, turned}
use Rattle.lot_laws.proofs.WeightInside.{ready-is}

-- the thread is Ready, if it exists
abbrev IsReadyAt : State → ℕ → Type 0
IsReadyAt s t = (r : Record) → at_number s.records t ≡ Some r → r.status ≡ Ready

-- ---- a change of one thread's record that changes no funding

changed-same : {A : Type 0} (read : Record → A) (change : Record → Record) (records : List Record) (t : ℕ)
    → ((r : Record) → at_number records t ≡ Some r → read (change r) ≡ read r)
    → map read (change_record change records t) ≡ map read records
changed-same read change records t same = at (at_number records t) refl
  where
    at : (o : Option Record) → at_number records t ≡ o → map read (change_record change records t) ≡ map read records
    at None is = rw is refl
    at (Some r) is =
        let now : change_record change records t ≡ set_number records t (change r) = rw is refl in
        ap (map read) now ∙ map-set read records (t - 1) (change r)
        ∙ number-kept (map read records) t (read (change r))
        (at_number-map read records t ∙ ap (option_map read) is ∙ ap Some (sym (same r is)))

-- a change keeps the thread live or not, and its lend
abbrev Keeps : (Record → Record) → State → ℕ → Type 0
Keeps change s t = (r : Record) → at_number s.records t ≡ Some r
    → (is_live_status (change r).status ≡ is_live_status r.status)
    × (lend_of s.limits (change r).status ≡ lend_of s.limits r.status)

abbrev with_change : (Record → Record) → ℕ → State → State
with_change change t s = record s { records = change_record change s.records t }

module _ (s : State) (change : Record → Record) (t : ℕ) (keeps : Keeps change s t) where
  funding-same : funding_of (with_change change t s) ≡ funding_of s
  funding-same = ap (λ (lends : List Lend). record (funding_of s) { lends = lends })
      (changed-same (λ (r : Record). lend_of s.limits r.status) change s.records t (λ r at. (keeps r at).1))

  live-same : live_of (with_change change t s) ≡ live_of s
  live-same = changed-same (λ (r : Record). is_live_status r.status) change s.records t (λ r at. (keeps r at).0)

  amount-same : (c : ℕ) → amount_in (with_change change t s) c ≡ amount_in s c
  amount-same c = ap (λ f. active_amount f (live_of (with_change change t s)) c) funding-same
      ∙ ap (λ l. active_amount (funding_of s) l c) live-same

module _ (c : ℕ) (inside : Node → Bool) where
  moved : (f f' g g' : Funding) (l l' k k' : List Bool) → f' ≡ f → g' ≡ g → l' ≡ l → k' ≡ k
      → IsChangeInside f g l k c inside → IsChangeInside f' g' l' k' c inside
  moved f f' g g' l l' k k' same_f same_g same_l same_k is =
      subst (λ x. IsChangeInside f' g' l' x c inside) (sym same_k)
      (subst (λ x. IsChangeInside f' g' x k c inside) (sym same_l)
      (subst (λ x. IsChangeInside f' x l k c inside) (sym same_g)
      (subst (λ x. IsChangeInside x g l k c inside) (sym same_f) is)))

  -- the same change of the same thread outside in both
  both-change : (s u : State) → DifferInside s u c inside → (change : Record → Record) (t : ℕ)
      → inside (Thread t) ≡ false → Keeps change s t
      → DifferInside (with_change change t s) (with_change change t u) c inside
  both-change s u is change t out keeps = record {
    change = moved (funding_of s) (funding_of (with_change change t s)) (funding_of u)
        (funding_of (with_change change t u)) (live_of s) (live_of (with_change change t s)) (live_of u)
        (live_of (with_change change t u)) (funding-same s change t keeps) (funding-same u change t keeps_too)
        (live-same s change t keeps) (live-same u change t keeps_too) is.change;
    active = (λ some. subst (λ (n : ℕ). 0 < n) (sym (amount-same u change t keeps_too c)) (is.active.0 (subst (λ (n : ℕ). 0 < n) (amount-same s change t keeps c) some)), λ some. subst (λ (n : ℕ). 0 < n) (sym (amount-same s change t keeps c)) (is.active.1 (subst (λ (n : ℕ). 0 < n) (amount-same u change t keeps_too c) some)));
    limits = is.limits;
    records = λ v v_out. record-of v v_out (cases_eq v t);
  }
    where
      keeps_too : Keeps change u t
      keeps_too r at = let k = keeps r (sym (is.records t out) ∙ at) in
          (k.0, ap (λ (l : Sizes). lend_of l (change r).status) is.limits ∙ k.1 ∙ sym (ap (λ (l : Sizes). lend_of l r.status) is.limits))

      own : (o : Option Record) → at_number s.records t ≡ o
          → at_number (change_record change u.records t) t ≡ at_number (change_record change s.records t) t
      own None none =
          let none_too : at_number u.records t ≡ None = is.records t out ∙ none in
          let same : change_record change s.records t ≡ s.records = rw none refl in
          let same_too : change_record change u.records t ≡ u.records = rw none_too refl in
          ap (λ rs. at_number rs t) same_too ∙ is.records t out ∙ sym (ap (λ rs. at_number rs t) same)
      own (Some r) at =
          record-now change u.records t r (is.records t out ∙ at) ∙ sym (record-now change s.records t r at)

      record-of : (v : ℕ) → inside (Thread v) ≡ false → (v ≡ t) ⊎ (¬ (v ≡ t))
          → at_number (change_record change u.records t) v ≡ at_number (change_record change s.records t) v
      record-of v v_out (inl same) =
          subst (λ x. at_number (change_record change u.records t) x ≡ at_number (change_record change s.records t) x)
          (sym same) (own (at_number s.records t) refl)
      record-of v v_out (inr apart) =
          record-other change u.records t v apart ∙ is.records v v_out ∙ sym (record-other change s.records t v apart)

  -- ---- draws

  -- what a draw does that the thread wins
  won-state : (s : State) (p n t : ℕ) → is_won_by t (step s (event.Draw p n)).reply ≡ true
      → ((step s (event.Draw p n)).state ≡ with_change (started p) t s)
      × IsReadyAt s t
  won-state s p n t = by (event_refusal s (event.Draw p n)) refl
    where
      fine : (place : ℕ) → IsReadyAt s (slice_index (ready_threads s.records) place)
      fine place = index-holds (IsReadyAt s) (ready_threads s.records) place (λ r at. cc) (λ x here r at.
          some-injective r.status Ready (sym (ap (option_map (λ (r : Record). r.status)) at)
          ∙ ready-is (status_of s.records x)
          (filter-passes (λ v. option_any is_ready (status_of s.records v)) (numbers s.records) place x here)))

      drawn : (o : Option Drawn) → winner (map (weight_of s) (ready_threads s.records)) n ≡ o
          → is_won_by t (draw s p n).reply ≡ true
          → ((draw s p n).state ≡ with_change (started p) t s) × IsReadyAt s t
      drawn None is won = let never = rw is at won in cc
      drawn (Some w) is won =
          let same : slice_index (ready_threads s.records) w.place ≡ t =
          eqb-true (slice_index (ready_threads s.records) w.place) t (rw is at won) in
          let state : (draw s p n).state ≡ with_change (started p) (slice_index (ready_threads s.records) w.place) s =
          rw is refl in
          (state ∙ ap (λ x. with_change (started p) x s) same, subst (IsReadyAt s) same (fine w.place))

      by : (o : Option Refusal) → event_refusal s (event.Draw p n) ≡ o
          → is_won_by t (unless_refused s o (draw s p n)).reply ≡ true
          → ((unless_refused s o (draw s p n)).state ≡ with_change (started p) t s)
          × IsReadyAt s t
      by (Some refusal) is won = cc
      by None is won = drawn (winner (map (weight_of s) (ready_threads s.records)) n) refl won

  pub both-draw : (s u : State) (e d : Event) → DifferInside s u c inside → WinOutside s u e d inside
      → DifferInside (step s e).state (step u d).state c inside
  both-draw s u e d is (p, n, m, t, e_is, d_is, out, won, won_too) =
      let first = won-state s p n t (subst (λ x. is_won_by t (step s x).reply ≡ true) e_is won) in
      let second = won-state u p m t (subst (λ x. is_won_by t (step u x).reply ≡ true) d_is won_too) in
      subst (λ x. DifferInside x (step u d).state c inside) (sym (ap (λ x. (step s x).state) e_is ∙ first.0))
      (subst (λ x. DifferInside (with_change (started p) t s) x c inside)
      (sym (ap (λ x. (step u x).state) d_is ∙ second.0))
      (both-change s u is (started p) t out
      (λ r at. (sym (ap is_live_status (first.1 r at)), sym (ap (lend_of s.limits) (first.1 r at))))))

  -- ---- the end of a turn

  -- the step of an event that ends a turn, from the limits, the thread on the processor and the ticks that it has used
  abbrev turn_end : (Sizes → Option ℕ → ℕ → Option Refusal) → (Sizes → ℕ → Record → Record)
      → (Sizes → ℕ → ℕ → Reply) → State → Sizes → Option ℕ → ℕ → Step
  turn_end refusal change reply s limits found used = unless_refused s (refusal limits found used) (record {
    state = with_change (change limits used) (unwrap_or found 0) s;
    reply = reply limits (unwrap_or found 0) used;
  })

  abbrev Both : Step → Step → Type 0
  Both a b = DifferInside a.state b.state c inside × (b.reply ≡ a.reply)

  used-same : (s u : State) (p t : ℕ) → DifferInside s u c inside → inside (Thread t) ≡ false
      → thread_on s.records p ≡ Some t → thread_on u.records p ≡ Some t → used_there u p ≡ used_there s p
  used-same s u p t is out on on_too =
      ap (λ o. unwrap_or (option_and_then (used_by u.records p) o) 0) on_too
      ∙ ap (λ (o : Option Record). unwrap_or (option_and_then (used_on p) (option_map (λ (r : Record). r.status) o)) 0)
      (is.records t out)
      ∙ sym (ap (λ o. unwrap_or (option_and_then (used_by s.records p) o) 0) on)

  both-end : (refusal : Sizes → Option ℕ → ℕ → Option Refusal) (change : Sizes → ℕ → Record → Record)
      (reply : Sizes → ℕ → ℕ → Reply)
      → ((limits : Sizes) (used : ℕ) (r : Record) → (change limits used r).status ≡ Ready)
      → (s u : State) (p t : ℕ) → DifferInside s u c inside → inside (Thread t) ≡ false
      → thread_on s.records p ≡ Some t → thread_on u.records p ≡ Some t
      → Both (turn_end refusal change reply s s.limits (thread_on s.records p) (used_there s p))
      (turn_end refusal change reply u u.limits (thread_on u.records p) (used_there u p))
  both-end refusal change reply ready s u p t is out on on_too =
      let first = ap (λ o. turn_end refusal change reply s s.limits o (used_there s p)) on in
      let second =
      ap (λ (l : Sizes). turn_end refusal change reply u l (thread_on u.records p) (used_there u p)) is.limits
      ∙ ap (λ o. turn_end refusal change reply u s.limits o (used_there u p)) on_too
      ∙ ap (λ k. turn_end refusal change reply u s.limits (Some t) k) (used-same s u p t is out on on_too) in
      subst (λ a. Both a (turn_end refusal change reply u u.limits (thread_on u.records p) (used_there u p)))
      (sym first)
      (subst (λ b. Both (turn_end refusal change reply s s.limits (Some t) (used_there s p)) b) (sym second)
      (by (refusal s.limits (Some t) (used_there s p))))
    where
      keeps : Keeps (change s.limits (used_there s p)) s t
      keeps r at =
          let (used, runs) = found-runs s.records p t on in
          let was : r.status ≡ Running p used = some-injective r.status (Running p used)
          (sym (ap (option_map (λ (x : Record). x.status)) at) ∙ runs) in
          let now = ready s.limits (used_there s p) r in
          (ap is_live_status now ∙ sym (ap is_live_status was), ap (lend_of s.limits) now ∙ sym (ap (lend_of s.limits) was))

      by : (o : Option Refusal) → Both
          (unless_refused s o (record { state = with_change (change s.limits (used_there s p)) t s; reply = reply s.limits t (used_there s p) }))
          (unless_refused u o (record { state = with_change (change s.limits (used_there s p)) t u; reply = reply s.limits t (used_there s p) }))
      by (Some refused) = (is, refl)
      by None = (both-change s u is (change s.limits (used_there s p)) t out keeps, refl)

  -- the checks of an event that ends a turn, before this one
  abbrev checked : ℕ → Sizes → Option ℕ → List (Bool × Refusal) → Option Refusal
  checked p limits found more =
      first_failing (((p == 0) || nat_lt limits.processors p, BadProcessor) ∷ (is_none found, NotRunning) ∷ more)

  abbrev stops : ℕ → Option ℕ → Record → Record
  stops ticks compensation r = with_ticks ticks (record r { status = Ready; compensation = compensation })

  each-end : (s u : State) (p t : ℕ) (e : Event) → DifferInside s u c inside → inside (Thread t) ≡ false
      → thread_on s.records p ≡ Some t → thread_on u.records p ≡ Some t → EndsTurn p e → Both (step s e) (step u e)
  each-end s u p t e is out on on_too (inl expires) =
      subst (λ x. Both (step s x) (step u x)) (sym expires) (both-end
      (λ limits found used. checked p limits found []) (λ limits used. stops (limits.quantum - used) None)
      (λ limits v used. answer.Expired v (limits.quantum - used)) (λ limits used r. refl) s u p t is out on on_too)
  each-end s u p t e is out on on_too (inr (inl (ticks, preempts))) =
      subst (λ x. Both (step s x) (step u x)) (sym preempts) (both-end
      (λ limits found used. checked p limits found ((nat_lt limits.quantum (used + ticks), BadTicks) ∷ []))
      (λ limits used. stops ticks None) (λ limits v used. answer.Expired v ticks) (λ limits used r. refl)
      s u p t is out on on_too)
  each-end s u p t e is out on on_too (inr (inr (inl (late, overruns)))) =
      subst (λ x. Both (step s x) (step u x)) (sym overruns) (both-end
      (λ limits found used. checked p limits found ((nat_le (2 ^ 32) (limits.quantum + late), BadTicks) ∷ []))
      (λ limits used. stops (limits.quantum - used + late) (compensation_for limits (limits.quantum + late)))
      (λ limits v used. answer.Expired v (limits.quantum - used + late))
      (λ limits used r. refl) s u p t is out on on_too)
  each-end s u p t e is out on on_too (inr (inr (inr (ran, yields)))) =
      subst (λ x. Both (step s x) (step u x)) (sym yields) (both-end
      (λ limits found used. checked p limits found ((nat_lt limits.quantum (used + ran + 1), BadTicks) ∷ []))
      (λ limits used r. with_ticks (ran + 1) (after_trap (Leaves Ready) p (used + ran + 1) limits r))
      (λ limits v used. answer.Trapped v (ran + 1) outcome.Yielded false)
      (λ limits used r. refl) s u p t is out on on_too)

  pub end-kept : (s u : State) (e d : Event) → DifferInside s u c inside → EndOutside s u e d inside
      → Both (step s e) (step u d)
  end-kept s u e d is (p, t, same, ends, out, on, on_too) =
      subst (λ x. Both (step s e) (step u x)) (sym same) (each-end s u p t e is out on on_too ends)

  -- ---- runs

  pub same-kept : (s u : State) (e d : Event) → IsReachable s → IsReachable u → DifferInside s u c inside
      → SameOutside s u e d inside → Both (step s e) (step u d)
  same-kept s u e d reachable reachable_too is (inl ends) = end-kept s u e d is ends
  same-kept s u e d reachable reachable_too is (inr (n, amount, from, to, command, same, leads, out)) =
      let both = set-both s u c inside n amount is reachable reachable_too from to leads out in
      subst (λ x. Both (step s e) (step u x)) (sym (same ∙ command))
      (subst (λ x. Both (step s x) (step u (event.Command (SetTicket n amount)))) (sym command) both)

  run-on : (s : State) (first more : List Event)
      → state_after s (first ++ more) ≡ state_after (state_after s first) more
  run-on s [] more = refl
  run-on s (e ∷ first) more = run-on (step s e).state first more

  alike-kept : (s u : State) (left right : List Event) → IsReachable s → IsReachable u → DifferInside s u c inside
      → AreAlike s u c inside left right → DifferInside (state_after s left) (state_after u right) c inside
  alike-kept s u left right reachable reachable_too is (inl (one, other)) =
      joined c inside (state_after s left) s (state_after u right) (turned c inside s (state_after s left) one)
      (joined c inside s u (state_after u right) is other)
  alike-kept s u left right reachable reachable_too is (inr (e, d, left_is, right_is, which)) =
      subst (λ x. DifferInside (state_after s x) (state_after u right) c inside) (sym left_is)
      (subst (λ x. DifferInside (step s e).state (state_after u x) c inside) (sym right_is) (by which))
    where
      by : WinOutside s u e d inside ⊎ SameOutside s u e d inside
          → DifferInside (step s e).state (step u d).state c inside
      by (inl wins) = both-draw s u e d is wins
      by (inr same) = (same-kept s u e d reachable reachable_too is same).0

  pub runs-kept : (s u : State) (pairs : List (List Event × List Event)) → IsReachable s → IsReachable u
      → DifferInside s u c inside → AllAlike s u c inside pairs
      → DifferInside (state_after s (first_runs pairs)) (state_after u (second_runs pairs)) c inside
  runs-kept s u [] reachable reachable_too is alike = is
  runs-kept s u ((left, right) ∷ rest) reachable reachable_too is (alike, more) =
      subst (λ x. DifferInside x (state_after u (right ++ second_runs rest)) c inside)
      (sym (run-on s left (first_runs rest)))
      (subst (λ x. DifferInside (state_after (state_after s left) (first_runs rest)) x c inside)
      (sym (run-on u right (second_runs rest)))
      (runs-kept (state_after s left) (state_after u right) rest (reachable-run s left reachable)
      (reachable-run u right reachable_too) (alike-kept s u left right reachable reachable_too is alike) more))

pub one-start : (s : State) (c : ℕ) (inside : Node → Bool) (pairs : List (List Event × List Event)) → IsReachable s
    → Encloses (funding_of s) c inside → AllAlike s s c inside pairs
    → AgreeOutside (state_after s (first_runs pairs)) (state_after s (second_runs pairs)) inside
one-start s c inside pairs reachable encloses alike =
    agrees (state_after s (first_runs pairs)) (state_after s (second_runs pairs)) c inside
    (reachable-run s (first_runs pairs) reachable) (reachable-run s (second_runs pairs) reachable)
    (runs-kept c inside s s pairs reachable reachable (itself c inside s encloses) alike)
