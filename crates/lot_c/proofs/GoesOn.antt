-- A reply's flag tells whether its thread runs on the event's processor.
use Rattle.lot_c.proofs.Common.{Action, After, BadProcessor, BadTicks, Bool, Call, Drawn, Effect, Ends, Event, GoesOn, IsInOrder, Leaves, List, Lock, None, NotRunning, Option, QueuedCall, Receive, Record, Refusal, RunsApart, Serve, Sizes, Sleep, Some, State, Status, Step, StopsIfLeaves, TrapRefusal, Unlock, Yield, after_trap, all-pass, ap, arith, at_number, at_number-suc, before_lock, change_record, checked-leads, checked-sizes, checked_effect, compensation_for, draw, ends_quantum, event_effect, event_refusal, false, filter-passes, finish_trap, found-runs, get_or, get_or_from_slice_get, inl, inr, is-ready, is_bad_processor, is_none, is_ready, length, length-map, map, mutex_at, nat_le, nat_lt, nobody-runs, not, numbered, numbers, option_any, plain_reply, port_at, processor_of, ready_threads, refl, runs_on, slice_get, slice_get_cases, slice_index, some-injective, started, status-now, status-set, status_of, step, step-order, stopped, suc, sym, there-runs, thread_in, thread_on, thread_there, trap_effect, trap_refusal, true, unless_refused, used_there, weight_of, winner, winner-within, with_ticks, zero, ℕ, [], ◌&&◌, ◌+◌, ◌-◌, ◌<◌, ◌^◌, ◌↔◌, ◌∙◌, ◌∷◌, ◌≡◌, ◌≤◌, ◌⊎◌}
use Rattle.lot_machine.specs.declared.trap.Trap.TheVariants.{Reply as ReplyTo, Exit}
use Rattle.lot_machine.specs.declared.event.Event.TheVariants as event
use Rattle.lot_machine.specs.declared.record.Status.TheVariants as status

-- ---- what a status says

-- the flag says whether this is the status of a thread that runs on the processor
abbrev Says : Bool → ℕ → Status → Type 0
Says true p now = (used : ℕ) × (now ≡ status.Running p used)
Says false p now = (used : ℕ) → ¬ (now ≡ status.Running p used)

-- it is found there then, and otherwise it isn't
found-if : (records : List Record) (p t : ℕ) (now : Status) (flag : Bool) → RunsApart records
    → status_of records t ≡ Some now → Says flag p now
    → (flag ≡ true) ↔ (thread_on records p ≡ Some t)
found-if records p t now true apart is (used, runs) = (λ _. found (thread_on records p) refl, λ _. refl)
  where
    found : (o : Option ℕ) → thread_on records p ≡ o → o ≡ Some t
    found None e = absurd (nobody-runs records p t used e (is ∙ ap Some runs))
    found (Some u) e = let there = found-runs records p u e in
        ap Some (apart.one_thread u t p there.0 used there.1 (is ∙ ap Some runs))
found-if records p t now false apart is stops =
    (λ e. cc, λ found. let there = found-runs records p t found in absurd (stops there.0 (some-injective now (status.Running p there.0) (sym is ∙ there.1))))

-- ---- after a trap

-- whether a thread stays on its processor
abbrev stays : After → Bool
stays GoesOn = true
stays other = false

-- the outcome says whether the thread that made the trap stays
abbrev Agrees : Effect → Type 0
Agrees e = runs_on e.outcome ≡ stays e.after

effect-agrees : (s : State) (t : ℕ) (action : Action) → Agrees (trap_effect s t action)
effect-agrees s t (Call port number) = at (port_at s.ports port).receivers refl
  where
    at : (o : List ℕ) → (port_at s.ports port).receivers ≡ o → Agrees (trap_effect s t (Call port number))
    at [] is = rw is refl
    at (server ∷ others) is = rw is refl
effect-agrees s t (Receive port) = at (port_at s.ports port).calls refl
  where
    at : (o : List QueuedCall) → (port_at s.ports port).calls ≡ o → Agrees (trap_effect s t (Receive port))
    at [] is = rw is refl
    at (first ∷ others) is = rw is refl
effect-agrees s t (Serve port number) = at (port_at s.ports port).calls refl
  where
    at : (o : List QueuedCall) → (port_at s.ports port).calls ≡ o → Agrees (trap_effect s t (Serve port number))
    at [] is = rw is refl
    at (first ∷ others) is = rw is refl
effect-agrees s t (Lock m) = at (mutex_at (before_lock s t m) m).owner refl
  where
    at : (o : Option ℕ) → (mutex_at (before_lock s t m) m).owner ≡ o → Agrees (trap_effect s t (Lock m))
    at None is = rw is refl
    at (Some owner) is = rw is refl
effect-agrees s t (Unlock m d) = at (mutex_at s.mutexes m).waiters refl
  where
    at : (o : List ℕ) → (mutex_at s.mutexes m).waiters ≡ o → Agrees (trap_effect s t (Unlock m d))
    at [] is = rw is refl
    at (w ∷ ws) is = rw is refl
effect-agrees s t action = refl

checked-agrees : (s : State) (t : ℕ) (action : Action) (o : Option TrapRefusal)
    → Agrees (checked_effect s o (trap_effect s t action))
checked-agrees s t action None = effect-agrees s t action
checked-agrees s t action (Some refusal) = refl

-- what the flag of a trap's reply says of the thread's status then
after-says : (after : After) (p used : ℕ) (limits : Sizes) (ticks : ℕ) (r : Record) → StopsIfLeaves after
    → Says (stays after && not (ends_quantum after used limits.quantum)) p
    (with_ticks ticks (after_trap after p used limits r)).status
after-says GoesOn p used limits ticks r stops = at (nat_lt used limits.quantum) refl
  where
    at : (b : Bool) → nat_lt used limits.quantum ≡ b → Says (true && not (nat_le limits.quantum used)) p
        (with_ticks ticks (after_trap GoesOn p used limits r)).status
    at true is = let more : nat_le limits.quantum used ≡ false = search (arith, is) in rw is (rw more (used, refl))
    at false is = let most : nat_le limits.quantum used ≡ true = search (arith, is) in rw is (rw most (λ other e. cc))
after-says (Leaves now) p used limits ticks r stops = λ other. stops p other
after-says Ends p used limits ticks r stops = λ other e. cc

-- a numbered thread has a record
record-there : (records : List Record) (t : ℕ) → 1 ≤ t → t < 1 + length records
    → (r : Record) × (at_number records t ≡ Some r)
record-there records zero low high = absurd (omega (arith, low))
record-there records (suc i) low high = from (slice_get_cases records i).1
  where
    from : ((r : Record) × (i < length records) × (slice_get records i ≡ Some r) × (get_or records i r ≡ r))
        ⊎ ((length records ≤ i) × (slice_get records i ≡ None))
        → (r : Record) × (at_number records (suc i) ≡ Some r)
    from (inl (r, _, here, _)) = (r, at_number-suc records i ∙ here)
    from (inr (past, _)) = absurd (omega (arith, high, past))

-- ---- what a reply's flag says

-- the flag of a reply says whether this thread is found on the processor
abbrev FlagSays : ℕ → ℕ → Step → Type 0
FlagSays p t next = ((plain_reply next.reply).goes_on ≡ true) ↔ (thread_on next.state.records p ≡ Some t)

trap-says : (s : State) (p t before ticks used : ℕ) (e : Effect)
    → status_of s.records t ≡ Some (status.Running p before) → length e.state.records ≡ length s.records
    → Agrees e → StopsIfLeaves e.after → RunsApart (finish_trap s p t ticks used e).state.records
    → FlagSays p t (finish_trap s p t ticks used e)
trap-says s p t before ticks used e runs same agrees stops apart =
    let bounds = numbered s.records t (status.Running p before) runs in
    let there = record-there e.state.records t bounds.0 (omega (arith, bounds.1, same)) in
    let finish : Record → Record = λ r. with_ticks ticks (after_trap e.after p used s.limits r) in
    let says = found-if (change_record finish e.state.records t) p t (finish there.0).status
    (stays e.after && not (ends_quantum e.after used s.limits.quantum)) apart
    (status-set finish e.state.records t there.0 there.1) (after-says e.after p used s.limits ticks there.0 stops) in
    rw agrees says

draw-says : (s : State) (p d t : ℕ) → thread_in (draw s p d).reply ≡ Some t → RunsApart (draw s p d).state.records
    → FlagSays p t (draw s p d)
draw-says s p d t = at (winner (map (weight_of s) (ready_threads s.records)) d) refl
  where
    at : (o : Option Drawn) → winner (map (weight_of s) (ready_threads s.records)) d ≡ o
        → thread_in (draw s p d).reply ≡ Some t → RunsApart (draw s p d).state.records
        → FlagSays p t (draw s p d)
    at None is e apart = let nobody : thread_in (draw s p d).reply ≡ None = rw is refl in
        let impossible : None ≡ Some t = sym nobody ∙ e in cc
    at (Some w) is e apart =
        let within = winner-within (map (weight_of s) (ready_threads s.records)) d w is in
        let below : w.place < length (ready_threads s.records) =
        omega (arith, within, length-map (ready_threads s.records) (weight_of s)) in
        let place = slice_index (ready_threads s.records) w.place in
        let named : thread_in (draw s p d).reply ≡ Some place = rw is refl in
        let same : place ≡ t = some-injective place t (sym named ∙ e) in
        let records : (draw s p d).state.records ≡ change_record (started p) s.records place = rw is refl in
        let flag : (plain_reply (draw s p d).reply).goes_on ≡ true = rw is refl in
        let now : status_of (draw s p d).state.records t ≡ Some (status.Running p 0) =
        ap (λ rs. status_of rs t) records ∙ ap (λ u. status_of (change_record (started p) s.records u) t) same
        ∙ starts t (stands w.place below t same) in
        rw flag (found-if (draw s p d).state.records p t (status.Running p 0) true apart now (0, refl))
      where
        stands : (i : ℕ) → i < length (ready_threads s.records) → (u : ℕ) → slice_index (ready_threads s.records) i ≡ u
            → slice_get (ready_threads s.records) i ≡ Some u
        stands i below u is = from (slice_get_cases (ready_threads s.records) i).1
          where
            from : ((x : ℕ) × (i < length (ready_threads s.records)) × (slice_get (ready_threads s.records) i ≡ Some x)
                × (get_or (ready_threads s.records) i x ≡ x))
                ⊎ ((length (ready_threads s.records) ≤ i) × (slice_get (ready_threads s.records) i ≡ None))
                → slice_get (ready_threads s.records) i ≡ Some u
            from (inl (x, _, here, _)) = here
                ∙ ap Some (sym (get_or_from_slice_get (ready_threads s.records) i x 0 here) ∙ is)
            from (inr (past, _)) = absurd (omega (arith, below, past))

        starts : (u : ℕ) → slice_get (ready_threads s.records) w.place ≡ Some u
            → status_of (change_record (started p) s.records u) u ≡ Some (status.Running p 0)
        starts u here =
            let ready = is-ready (status_of s.records u)
            (filter-passes (λ v. option_any is_ready (status_of s.records v)) (numbers s.records) w.place u here) in
            status-now (started p) s.records u status.Ready (status.Running p 0) ready (λ r. refl)

stopped-says : (s : State) (p t before ticks : ℕ) (compensation : Option ℕ)
    → status_of s.records t ≡ Some (status.Running p before) → RunsApart (stopped s t ticks compensation).state.records
    → FlagSays p t (stopped s t ticks compensation)
stopped-says s p t before ticks compensation runs apart =
    let change : Record → Record =
    λ r. with_ticks ticks (record r { status = status.Ready; compensation = compensation }) in
    let now = status-now change s.records t (status.Running p before) status.Ready runs (λ r. refl) in
    found-if (change_record change s.records t) p t status.Ready false apart now (λ other e. cc)

-- ---- events

-- what holds of the effect of an event that isn't refused, which names a thread then
unrefused-says : (s : State) (o : Option Refusal) (next : Step) (p t : ℕ)
    → thread_in (unless_refused s o next).reply ≡ Some t → RunsApart (unless_refused s o next).state.records
    → (o ≡ None → thread_in next.reply ≡ Some t → RunsApart next.state.records → FlagSays p t next)
    → FlagSays p t (unless_refused s o next)
unrefused-says s None next p t named apart says = says refl named apart
unrefused-says s (Some refusal) next p t named apart says = cc

pub flag-says : (s : State) (e : Event) (p t : ℕ) → IsInOrder s → processor_of e ≡ Some p
    → thread_in (step s e).reply ≡ Some t
    → ((plain_reply (step s e).reply).goes_on ≡ true) ↔ (thread_on (step s e).state.records p ≡ Some t)
flag-says s e p t order on named = by e on named (step-order s e order).runs_apart
  where
    by : (e : Event) → processor_of e ≡ Some p → thread_in (step s e).reply ≡ Some t
        → RunsApart (step s e).state.records → FlagSays p t (step s e)
    by (event.Command command) on named apart = cc
    by (event.Draw q d) on named apart =
        let same : q ≡ p = some-injective q p on in
        unrefused-says s (event_refusal s (event.Draw q d)) (draw s q d) p t named apart (λ _ named apart.
        rw (sym same) (draw-says s q d t named apart))
    by (event.Expire q) on named apart =
        let same : q ≡ p = some-injective q p on in
        unrefused-says s (event_refusal s (event.Expire q)) (event_effect s (event.Expire q)) p t named apart
        (λ allowed named apart.
        let passed =
        all-pass ((is_bad_processor s q, BadProcessor) ∷ (is_none (thread_on s.records q), NotRunning) ∷ []) allowed in
        let there = there-runs s q passed.1.0 in
        let thread : thread_there s q ≡ t = some-injective (thread_there s q) t named in
        rw (sym same) (rw (sym thread)
        (stopped-says s q (thread_there s q) there.0 (s.limits.quantum - used_there s q) None there.1 apart)))
    by (event.Preempt q ticks) on named apart =
        let same : q ≡ p = some-injective q p on in
        unrefused-says s (event_refusal s (event.Preempt q ticks))
        (event_effect s (event.Preempt q ticks)) p t named apart (λ allowed named apart.
        let passed = all-pass ((is_bad_processor s q, BadProcessor) ∷ (is_none (thread_on s.records q), NotRunning)
        ∷ (nat_lt s.limits.quantum (used_there s q + ticks), BadTicks) ∷ []) allowed in
        let there = there-runs s q passed.1.0 in
        let thread : thread_there s q ≡ t = some-injective (thread_there s q) t named in
        rw (sym same) (rw (sym thread) (stopped-says s q (thread_there s q) there.0 ticks None there.1 apart)))
    by (event.Overrun q late) on named apart =
        let same : q ≡ p = some-injective q p on in
        unrefused-says s (event_refusal s (event.Overrun q late))
        (event_effect s (event.Overrun q late)) p t named apart (λ allowed named apart.
        let passed = all-pass ((is_bad_processor s q, BadProcessor) ∷ (is_none (thread_on s.records q), NotRunning)
        ∷ (nat_le (2 ^ 32) (s.limits.quantum + late), BadTicks) ∷ []) allowed in
        let there = there-runs s q passed.1.0 in
        let thread : thread_there s q ≡ t = some-injective (thread_there s q) t named in
        rw (sym same) (rw (sym thread) (stopped-says s q (thread_there s q) there.0 (s.limits.quantum - used_there s q
        + late) (compensation_for s.limits (s.limits.quantum + late)) there.1 apart)))
    by (event.Wake u) on named apart = cc
    by (event.Trap q ran action) on named apart =
        let same : q ≡ p = some-injective q p on in
        unrefused-says s (event_refusal s (event.Trap q ran action))
        (event_effect s (event.Trap q ran action)) p t named apart (λ allowed named apart.
        let passed = all-pass ((is_bad_processor s q, BadProcessor) ∷ (is_none (thread_on s.records q), NotRunning)
        ∷ (nat_lt s.limits.quantum (used_there s q + ran + 1), BadTicks) ∷ []) allowed in
        let there = there-runs s q passed.1.0 in
        let u = thread_there s q in
        let thread : u ≡ t = some-injective u t named in
        let refusal = trap_refusal s u action in
        rw (sym same) (rw (sym thread) (trap-says s q u there.0 (ran + 1) (used_there s q + ran + 1)
        (checked_effect s refusal (trap_effect s u action)) there.1
        (checked-sizes s u action refusal).1 (checked-agrees s u action refusal)
        (checked-leads s u action refusal).1 apart)))
