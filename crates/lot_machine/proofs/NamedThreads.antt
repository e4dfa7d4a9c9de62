-- The thread that the reply to an event of one processor names doesn't run on another.
use Rattle.lot_machine.proofs.Common.{BadProcessor, BadTicks, Bool, Drawn, Event, List, None, NotRunning, Option, Refusal, Some, State, Status, Step, ap, arith, cases_lt, draw, eqb-false, event_effect, event_refusal, false, first_above, get_or, get_or_from_slice_get, if◌then◌else◌, inl, inr, is_bad_processor, is_none, is_ready, length, length-map, ltb-false, map, mod-lt, nat_le, nat_lt, numbers, option_any, processor_of, ready_threads, refl, running_sums, slice_get, slice_get_cases, slice_index, status_of, step, suc, sum, sum_by-cons, sym, thread_in, thread_on, thread_there, true, unless_refused, used_by, used_on, used_there, weight_of, winner, ℕ, [], ◌%◌, ◌+◌, ◌-◌, ◌<◌, ◌==◌, ◌^◌, ◌∙◌, ◌∷◌, ◌≡◌, ◌≤◌, ◌⊎◌}
use Rattle.lot_machine.specs.declared.record.Status.TheVariants as status
use Rattle.lot_machine.specs.declared.event.Event.TheVariants as event
use Rattle.lot_machine.proofs.Changes.{number-there}
use Rattle.lot_machine.proofs.Queues.{record-of}
use Rattle.lot_machine.proofs.Tickets.{some-injective}
use Rattle.lot_machine.proofs.CommandsKept.{all-pass}
use Rattle.lot_machine.proofs.RecordsKept.{found-runs, runs-used_by}
use Rattle.lot_machine.proofs.Idle.{filter-passes, is-ready, there-runs, used-elsewhere, used-of}

-- ---- the place of a winner

-- a number below the sum is exceeded at one of the places
first_above-within : (ws : List ℕ) (before n : ℕ) → n < before + sum ws → before ≤ n
    → first_above n (running_sums before ws) < length ws
first_above-within [] before n high low = absurd (omega (arith, high, low))
first_above-within (w ∷ ws) before n high low =
    at (nat_lt n (before + w)) refl
    (λ more. first_above-within ws (before + w) n (omega (arith, high, sum_by-cons (λ x. x) w ws)) more)
  where
    at : (b : Bool) → nat_lt n (before + w) ≡ b
        → (before + w ≤ n → first_above n (running_sums (before + w) ws) < length ws)
        → (if b then 0 else suc (first_above n (running_sums (before + w) ws))) < length (w ∷ ws)
    at true is next = omega arith
    at false is next = omega (arith, next (ltb-false n (before + w) is))

-- so the winner has one of the places
pub winner-within : (ws : List ℕ) (d : ℕ) (w : Drawn) → winner ws d ≡ Some w → w.place < length ws
winner-within ws d w = at (sum ws == 0) refl
  where
    at : (b : Bool) → (sum ws == 0) ≡ b
        → (if b then None else Some
        (record { place = first_above (d % sum ws) (running_sums 0 ws); number = d % sum ws; total = sum ws })) ≡ Some w
        → w.place < length ws
    at true none e = cc
    at false some e =
        let below : d % sum ws < sum ws = mod-lt d (from (cases_lt 0 (sum ws))) in
        let won : Drawn =
        record { place = first_above (d % sum ws) (running_sums 0 ws); number = d % sum ws; total = sum ws } in
        let place : won.place ≡ w.place = ap (λ (x : Drawn). x.place) (some-injective won w e) in
        omega (arith, place, first_above-within ws 0 (d % sum ws) (omega (arith, below)) (omega arith))
      where
        from : (0 < sum ws) ⊎ (sum ws ≤ 0) → 0 < sum ws
        from (inl h) = h
        from (inr h) = absurd (eqb-false (sum ws) 0 some (omega (arith, h)))

-- ---- the thread that a reply names

-- the thread has a status, and doesn't run on the processor
abbrev IsElsewhere : State → ℕ → ℕ → Type 0
IsElsewhere s p t = (now : Status) × (status_of s.records t ≡ Some now) × (used_on p now ≡ None)

-- who stands at a place of the Ready threads
ready-elsewhere : (s : State) (p place t : ℕ) → place < length (ready_threads s.records)
    → slice_index (ready_threads s.records) place ≡ t → IsElsewhere s p t
ready-elsewhere s p place t below is = at (ready_threads s.records) refl below is
  where
    at : (us : List ℕ) → ready_threads s.records ≡ us → place < length us → slice_index us place ≡ t → IsElsewhere s p t
    at us these low there = from (slice_get_cases us place).1
      where
        from : ((x : ℕ) × (place < length us) × (slice_get us place ≡ Some x) × (get_or us place x ≡ x))
            ⊎ ((length us ≤ place) × (slice_get us place ≡ None))
            → IsElsewhere s p t
        from (inl (x, _, here, _)) =
            let same : x ≡ t = sym (get_or_from_slice_get us place x 0 here) ∙ there in
            let stands = ap (λ xs. slice_get xs place) these ∙ here ∙ ap Some same in
            let passes =
            filter-passes (λ u. option_any is_ready (status_of s.records u)) (numbers s.records) place t stands in
            (status.Ready, is-ready (status_of s.records t) passes, refl)
        from (inr (past, _)) = absurd (omega (arith, low, past))

-- the winner of a draw was Ready
draw-named : (s : State) (q d p t : ℕ) → thread_in (draw s q d).reply ≡ Some t → IsElsewhere s p t
draw-named s q d p t = at (winner (map (weight_of s) (ready_threads s.records)) d) refl
  where
    at : (o : Option Drawn) → winner (map (weight_of s) (ready_threads s.records)) d ≡ o
        → thread_in (draw s q d).reply ≡ Some t → IsElsewhere s p t
    at None is e = let nobody : thread_in (draw s q d).reply ≡ None = rw is refl in
        let impossible : None ≡ Some t = sym nobody ∙ e in cc
    at (Some w) is e =
        let place = slice_index (ready_threads s.records) w.place in
        let named : thread_in (draw s q d).reply ≡ Some place = rw is refl in
        let within = winner-within (map (weight_of s) (ready_threads s.records)) d w is in
        let below : w.place < length (ready_threads s.records) =
        omega (arith, within, length-map (ready_threads s.records) (weight_of s)) in
        ready-elsewhere s p w.place t below (some-injective place t (sym named ∙ e))

-- who is found on another processor
there-named : (s : State) (p q t : ℕ) → ¬ (q ≡ p) → is_none (thread_on s.records q) ≡ false → thread_there s q ≡ t
    → IsElsewhere s p t
there-named s p q t other some is =
    let there = there-runs s q some in
    (status.Running q there.0, ap (status_of s.records) (sym is) ∙ there.1, used-elsewhere p q there.0 other)

-- a reply that names a thread isn't a refusal
unrefused-named : (s : State) (o : Option Refusal) (next : Step) (t : ℕ)
    → thread_in (unless_refused s o next).reply ≡ Some t
    → (o ≡ None) × (thread_in next.reply ≡ Some t)
unrefused-named s None next t e = (refl, e)
unrefused-named s (Some refusal) next t e = cc

-- an event of another processor names a thread that doesn't run on this one
step-named : (s : State) (e : Event) (p q t : ℕ) → processor_of e ≡ Some q → ¬ (q ≡ p)
    → thread_in (step s e).reply ≡ Some t → IsElsewhere s p t
step-named s (event.Command command) p q t on other named = cc
step-named s (event.Draw r d) p q t on other named =
    draw-named s r d p t (unrefused-named s (event_refusal s (event.Draw r d)) (draw s r d) t named).1
step-named s (event.Expire r) p q t on other named =
    let done = unrefused-named s (event_refusal s (event.Expire r)) (event_effect s (event.Expire r)) t named in
    let passed =
    all-pass ((is_bad_processor s r, BadProcessor) ∷ (is_none (thread_on s.records r), NotRunning) ∷ []) done.0 in
    there-named s p r t (λ same. other (sym (some-injective r q on) ∙ same)) passed.1.0
    (some-injective (thread_there s r) t done.1)
step-named s (event.Preempt r ticks) p q t on other named =
    let done =
    unrefused-named s (event_refusal s (event.Preempt r ticks)) (event_effect s (event.Preempt r ticks)) t named in
    let passed = all-pass ((is_bad_processor s r, BadProcessor) ∷ (is_none (thread_on s.records r), NotRunning)
    ∷ (nat_lt s.limits.quantum (used_there s r + ticks), BadTicks) ∷ []) done.0 in
    there-named s p r t (λ same. other (sym (some-injective r q on) ∙ same)) passed.1.0
    (some-injective (thread_there s r) t done.1)
step-named s (event.Overrun r ticks) p q t on other named =
    let done =
    unrefused-named s (event_refusal s (event.Overrun r ticks)) (event_effect s (event.Overrun r ticks)) t named in
    let passed = all-pass ((is_bad_processor s r, BadProcessor) ∷ (is_none (thread_on s.records r), NotRunning)
    ∷ (nat_le (2 ^ 32) (s.limits.quantum + ticks), BadTicks) ∷ []) done.0 in
    there-named s p r t (λ same. other (sym (some-injective r q on) ∙ same)) passed.1.0
    (some-injective (thread_there s r) t done.1)
step-named s (event.Wake u) p q t on other named = cc
step-named s (event.Trap r ran action) p q t on other named =
    let done =
    unrefused-named s (event_refusal s (event.Trap r ran action)) (event_effect s (event.Trap r ran action)) t named in
    let passed = all-pass ((is_bad_processor s r, BadProcessor) ∷ (is_none (thread_on s.records r), NotRunning)
    ∷ (nat_lt s.limits.quantum (used_there s r + ran + 1), BadTicks) ∷ []) done.0 in
    there-named s p r t (λ same. other (sym (some-injective r q on) ∙ same)) passed.1.0
    (some-injective (thread_there s r) t done.1)

-- and so it doesn't stand where the one that runs there does
pub named-apart : (s : State) (e : Event) (p q t u : ℕ) → processor_of e ≡ Some q → ¬ (q ≡ p)
    → thread_in (step s e).reply ≡ Some t
    → thread_on s.records p ≡ Some u → ¬ (u ≡ suc (t - 1))
named-apart s e p q t u on other named found same = from (step-named s e p q t on other named)
  where
    from : IsElsewhere s p t → ⊥
    from (now, is, elsewhere) =
        let r = record-of s.records t now is in
        let runs = found-runs s.records p u found in
        let place : u ≡ t = same ∙ number-there s.records t r.0 r.1 in
        let used : used_by s.records p u ≡ Some runs.0 = runs-used_by s.records p u runs.0 runs.1 in
        let none : used_by s.records p u ≡ None = ap (used_by s.records p) place
        ∙ used-of s.records p t now is elsewhere in
        let impossible : None ≡ Some runs.0 = sym none ∙ used in cc

-- the same, of its number itself
pub named-other : (s : State) (e : Event) (p q t : ℕ) → processor_of e ≡ Some q → ¬ (q ≡ p)
    → thread_in (step s e).reply ≡ Some t
    → ¬ (thread_on s.records p ≡ Some t)
named-other s e p q t on other named found = from (step-named s e p q t on other named)
  where
    from : IsElsewhere s p t → ⊥
    from (now, is, elsewhere) =
        let r = record-of s.records t now is in
        named-apart s e p q t t on other named found (sym (number-there s.records t r.0 r.1))
