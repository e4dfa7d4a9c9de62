-- An event of one processor leaves the thread that runs on another, unless it kills that thread, and the ticks used
-- there.
use Rattle.lot_machine.proofs.Common.{Bool, Command, DeadThread, Drawn, Event, IsInOrder, Kill, List, NoThread, None, Option, Record, Refusal, RunsApart, Some, State, Step, ThreadRef, ap, command_effect, command_refusal, command_step, cond, draw, event_effect, event_refusal, false, first_failing, inl, inr, is_dead, is_dead_in, is_none, kill, killed, map, option_and_then, option_any, processor_of, ready_threads, refl, status_of, step, subst, sym, thread_meant, thread_on, true, unless_refused, unwrap_or, used_by, used_there, weight_of, winner, ℕ, [], ◌∙◌, ◌∷◌, ◌≡◌, ◌⊎◌}
use Rattle.lot_machine.specs.declared.record.Status.TheVariants as status
use Rattle.lot_machine.specs.declared.event.Event.TheVariants as event
use Rattle.lot_machine.specs.declared.reply.Reply.TheVariants as answer
use Rattle.lot_machine.proofs.RecordsKept.{used_by-runs, runs-used_by, nobody-runs, found-runs}
use Rattle.lot_machine.proofs.Killed.{killed-dead}
use Rattle.lot_machine.proofs.StepChanges.{On, Kills, kept, change-used, change-ran, by_event, step-leads}

-- an event of no processor, or of another, makes no change on this one
elsewhere : (s : State) (e : Event) (p : ℕ) → ¬ (processor_of e ≡ Some p) → ¬ (by_event s e ≡ On p)
elsewhere s (event.Command (Kill thread)) p apart is = cc
elsewhere s (event.Command command) p apart is = cc
elsewhere s (event.Draw q d) p apart is = let same : q ≡ p = cc in apart (ap Some same)
elsewhere s (event.Expire q) p apart is = let same : q ≡ p = cc in apart (ap Some same)
elsewhere s (event.Trap q ran action) p apart is = let same : q ≡ p = cc in apart (ap Some same)
elsewhere s (event.Preempt q ticks) p apart is = let same : q ≡ p = cc in apart (ap Some same)
elsewhere s (event.Overrun q ticks) p apart is = let same : q ≡ p = cc in apart (ap Some same)
elsewhere s (event.Wake t) p apart is = cc

-- an event whose reply doesn't say that the thread was killed isn't its kill, or was refused
spared : (s : State) (e : Event) (t : ℕ) → ¬ ((step s e).reply ≡ answer.Killed t)
    → (¬ (by_event s e ≡ Kills (Some t))) ⊎ ((step s e).state ≡ s)
spared s (event.Command (Kill thread)) t other = at (command_refusal s (Kill thread)) other
  where
    at : (o : Option Refusal)
        → ¬ ((unless_refused s o (kill s (unwrap_or (thread_meant s thread) 0))).reply ≡ answer.Killed t)
        → (¬ (Kills (thread_meant s thread) ≡ Kills (Some t)))
        ⊎ ((unless_refused s o (kill s (unwrap_or (thread_meant s thread) 0))).state ≡ s)
    at None other = inl
        (λ is. let meant : thread_meant s thread ≡ Some t = cc in other (ap (λ o. answer.Killed (unwrap_or o 0)) meant))
    at (Some refusal) other = inr refl
spared s (event.Command command) t other = inl (λ is. cc)
spared s e t other = inl (λ is. cc)

-- an event of no processor, or of another, leaves the ticks that a thread has used on this one, unless it kills the thread
pub step-used : (s : State) (e : Event) (p t : ℕ) → IsInOrder s → ¬ (processor_of e ≡ Some p)
    → ¬ ((step s e).reply ≡ answer.Killed t) → used_by (step s e).state.records p t ≡ used_by s.records p t
step-used s e p t order apart other = from (spared s e t other)
  where
    from : (¬ (by_event s e ≡ Kills (Some t))) ⊎ ((step s e).state ≡ s)
        → used_by (step s e).state.records p t ≡ used_by s.records p t
    from (inl by) = kept (λ a. used_by a.records p t ≡ used_by s.records p t) (change-used (by_event s e) s p t
        order.queues (λ _. (order.gaps, order.removed)) (elsewhere s e p apart) by) (step-leads s e) refl
    from (inr same) = ap (λ (a : State). used_by a.records p t) same

-- who runs on this one ran there before
step-ran : (s : State) (e : Event) (p t used : ℕ) → ¬ (processor_of e ≡ Some p) → status_of (step s e).state.records t
    ≡ Some (status.Running p used) → status_of s.records t ≡ Some (status.Running p used)
step-ran s e p t used apart =
    kept (λ a. status_of a.records t ≡ Some (status.Running p used) → status_of s.records t ≡ Some (status.Running p
    used)) (change-ran (by_event s e) s p t used (elsewhere s e p apart)) (step-leads s e) (λ runs. runs)

-- the same thread is found on a processor if nobody starts to run there, and the one that ran there has used as many ticks
found-same : (before after : List Record) (p : ℕ) → RunsApart before
    → ((t used : ℕ) → status_of after t ≡ Some (status.Running p used)
    → status_of before t ≡ Some (status.Running p used))
    → ((t : ℕ) → thread_on before p ≡ Some t → used_by after p t ≡ used_by before p t)
    → thread_on after p ≡ thread_on before p
found-same before after p apart ran same = at (thread_on after p) (thread_on before p) refl refl
  where
    at : (n o : Option ℕ) → thread_on after p ≡ n → thread_on before p ≡ o → n ≡ o
    at None None new old = refl
    at (Some t) None new old = let runs = found-runs after p t new in
        absurd (nobody-runs before p t runs.0 old (ran t runs.0 runs.1))
    at None (Some t) new old =
        let before_there = found-runs before p t old in
        let still =
        used_by-runs after p t before_there.0 (same t old ∙ runs-used_by before p t before_there.0 before_there.1) in
        absurd (nobody-runs after p t before_there.0 new still)
    at (Some t) (Some u) new old =
        let runs = found-runs after p t new in
        let before_there = found-runs before p u old in
        ap Some (apart.one_thread t u p runs.0 before_there.0 (ran t runs.0 runs.1) before_there.1)

-- an event of no processor, or of another, leaves who runs on this one, unless it kills that thread
pub step-found : (s : State) (e : Event) (p : ℕ) → IsInOrder s → ¬ (processor_of e ≡ Some p)
    → ((t : ℕ) → thread_on s.records p ≡ Some t → ¬ ((step s e).reply ≡ answer.Killed t))
    → thread_on (step s e).state.records p ≡ thread_on s.records p
step-found s e p order apart other =
    found-same s.records (step s e).state.records p order.runs_apart (λ t used. step-ran s e p t used apart)
    (λ t found. step-used s e p t order apart (other t found))

-- and how many ticks that thread has used
pub step-used_there : (s : State) (e : Event) (p : ℕ) → IsInOrder s → ¬ (processor_of e ≡ Some p)
    → ((t : ℕ) → thread_on s.records p ≡ Some t → ¬ ((step s e).reply ≡ answer.Killed t))
    → used_there (step s e).state p ≡ used_there s p
step-used_there s e p order apart other =
    let after = (step s e).state.records in
    ap (λ o. unwrap_or (option_and_then (used_by after p) o) 0) (step-found s e p order apart other)
    ∙ from (thread_on s.records p) refl
  where
    from : (o : Option ℕ) → thread_on s.records p ≡ o
        → unwrap_or (option_and_then (used_by (step s e).state.records p) o) 0
        ≡ unwrap_or (option_and_then (used_by s.records p) o) 0
    from None is = refl
    from (Some t) is = ap (λ o. unwrap_or o 0) (step-used s e p t order apart (other t is))

-- ---- a kill

-- the reply of a refused step is the refusal
unrefused-kill : (s : State) (o : Option Refusal) (next : Step) (t : ℕ)
    → (unless_refused s o next).reply ≡ answer.Killed t → next.reply ≡ answer.Killed t
unrefused-kill s None next t is = is
unrefused-kill s (Some refusal) next t is = cc

-- the step of a kill of the thread that is meant, if any
abbrev kill-outcome : State → Option ℕ → Step
kill-outcome s o = unless_refused s (first_failing {R = Refusal}
    ((is_none o, NoThread) ∷ (option_any (is_dead_in s) o, DeadThread) ∷ [])) (kill s (unwrap_or o 0))

-- a command that kills a thread means it
pub kill-step : (s : State) (thread : ThreadRef) (t : ℕ) → (command_step s (Kill thread)).reply ≡ answer.Killed t
    → (thread_meant s thread ≡ Some t) × ((command_step s (Kill thread)).state ≡ killed s t)
kill-step s thread t = of (thread_meant s thread)
  where
    of : (o : Option ℕ) → (kill-outcome s o).reply ≡ answer.Killed t
        → (o ≡ Some t) × ((kill-outcome s o).state ≡ killed s t)
    of None is = cc
    of (Some u) is = at (is_dead_in s u) is
      where
        at : (b : Bool) → (unless_refused s (cond b (Some DeadThread) None) (kill s u)).reply ≡ answer.Killed t
            → (Some u ≡ Some t) × ((unless_refused s (cond b (Some DeadThread) None) (kill s u)).state ≡ killed s t)
        at true is = cc
        at false is = let same : u ≡ t = cc in (ap Some same, ap (killed s) same)

command-kills : (s : State) (c : Command) (t : ℕ) → (command_step s c).reply ≡ answer.Killed t
    → (command_step s c).state ≡ killed s t
command-kills s (Kill thread) t is = (kill-step s thread t is).1
command-kills s other t is = let never = unrefused-kill s (command_refusal s other) (command_effect s other) t is in cc

-- a draw kills nobody
draw-kills : (s : State) (p d t : ℕ) → ¬ ((draw s p d).reply ≡ answer.Killed t)
draw-kills s p d t = at (winner (map (weight_of s) (ready_threads s.records)) d) refl
  where
    at : (o : Option Drawn) → winner (map (weight_of s) (ready_threads s.records)) d ≡ o
        → ¬ ((draw s p d).reply ≡ answer.Killed t)
    at None is = rw is (λ e. cc)
    at (Some w) is = rw is (λ e. cc)

-- an event that kills a thread has no processor, and does nothing else
pub event-kills : (s : State) (e : Event) (t : ℕ) → (step s e).reply ≡ answer.Killed t
    → (processor_of e ≡ None) × ((step s e).state ≡ killed s t)
event-kills s (event.Command c) t is = (refl, command-kills s c t is)
event-kills s (event.Draw p d) t is =
    absurd (draw-kills s p d t (unrefused-kill s (event_refusal s (event.Draw p d)) (draw s p d) t is))
event-kills s other t is = let never = unrefused-kill s (event_refusal s other) (event_effect s other) t is in cc

-- nobody runs on the processor of a thread that is killed
pub step-idle : (s : State) (e : Event) (p t : ℕ) → IsInOrder s → (step s e).reply ≡ answer.Killed t
    → thread_on s.records p ≡ Some t → thread_on (step s e).state.records p ≡ None
step-idle s e p t order kills found = at (thread_on (step s e).state.records p) refl
  where
    apart : ¬ (processor_of e ≡ Some p)
    apart on = let never : None ≡ Some p = sym (event-kills s e t kills).0 ∙ on in cc

    at : (o : Option ℕ) → thread_on (step s e).state.records p ≡ o → o ≡ None
    at None is = refl
    at (Some u) is =
        let before = found-runs s.records p t found in
        let after = found-runs (step s e).state.records p u is in
        let ran = step-ran s e p u after.0 apart after.1 in
        let same : u ≡ t = order.runs_apart.one_thread u t p after.0 before.0 ran before.1 in
        let dead : status_of (step s e).state.records u ≡ Some status.Dead =
        ap (λ (a : State). status_of a.records u) (event-kills s e t kills).1 ∙ ap (status_of (killed s t).records) same
        ∙ killed-dead s t (status.Running p before.0) before.1 in
        let never : Some status.Dead ≡ Some (status.Running p after.0) = sym dead ∙ after.1 in
        cc
