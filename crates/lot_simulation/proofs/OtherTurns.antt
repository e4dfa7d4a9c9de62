-- A turn of one actor leaves the cost of the next turn of another processor.
use Rattle.lot_simulation.proofs.Common.{Bool, Command, Context, Event, IsBetween, IsInOrder, Kill, List, MakeFunded, MakeThread, None, Option, Program, Record, Refusal, Reply, ScriptTrap, Slice, Some, State, Step, TurnMade, World, actor_event, ap, arith, at_number, command-grown, command_effect, command_refusal, command_step, command_turn, cond, console_turn, context_of, contexts_after, contexts_after_command, cost_of, eqb-true, event-kills, event_of_slice, event_refusal, false, found-runs, free-dead, free_threads, get_or, inl, inr, is_none, killed-length, length, length-append, length-placed, length-set, named-apart, nat_le, new_context, newborn, next_name, number-set, number-stays, number_of, numbered, other-sizes, placed, processor_event, processor_of, processor_turn, refl, resolved, set_number, slice, slice_get, slice_on, status_of, step, step-found, step-grown, step-idle, step-limits, step-order, step-sizes, step-used_there, subst, suc, sym, system_turn, thread_in, thread_meant, thread_on, true, unless_refused, unwrap_or, used_there, wake, ℕ, [], ◌+◌, ◌-◌, ◌==◌, ◌∙◌, ◌∷◌, ◌≡◌, ◌≤◌, ◌⊎◌}
use Rattle.lot_machine.specs.declared.event.Event.TheVariants as event
use Rattle.lot_machine.specs.declared.reply.Reply.TheVariants as reply
use Rattle.lot_machine.specs.declared.record.Status.TheVariants as status
use Rattle.lot_simulation.proofs.DrawnThreads.{number-some}

-- ---- what a turn costs

-- what a processor does if this thread runs there, or nobody
abbrev pub event_for : World → ℕ → Option ℕ → Event
event_for w p None = event.Draw p (number_of w p)
event_for w p (Some t) = event_of_slice p (number_of w p) (slice_on w p t)

pub event-for : (w : World) (p : ℕ) → processor_event w p ≡ event_for w p (thread_on w.state.records p)
event-for w p = at (thread_on w.state.records p) refl
  where
    at : (o : Option ℕ) → thread_on w.state.records p ≡ o
        → processor_event w p ≡ event_for w p (thread_on w.state.records p)
    at None is = refl
    at (Some t) is = refl

-- a slice costs the same in two worlds with the same quantum and the same ticks used
slice-cost : (v w : World) (p d e : ℕ) (s : Slice)
    → v.state.limits.quantum - used_there v.state p ≡ w.state.limits.quantum - used_there w.state p
    → cost_of v (event_of_slice p d s) ≡ cost_of w (event_of_slice p e s)
slice-cost v w p d e s budget = at s.trap refl
  where
    at : (o : Option ScriptTrap) → s.trap ≡ o → cost_of v (event_of_slice p d s) ≡ cost_of w (event_of_slice p e s)
    at None is = rw is budget
    at (Some trap) is = rw is refl

-- so does a processor's next turn, if the same thread runs there and is at the same place of its script
cost-same : (v w : World) (p : ℕ) → v.state.limits ≡ w.state.limits → used_there v.state p ≡ used_there w.state p
    → thread_on v.state.records p ≡ thread_on w.state.records p
    → ((t : ℕ) → thread_on w.state.records p ≡ Some t → context_of v t ≡ context_of w t)
    → cost_of v (processor_event v p) ≡ cost_of w (processor_event w p)
cost-same v w p limits used found contexts =
    ap (cost_of v) (event-for v p) ∙ ap (λ o. cost_of v (event_for v p o)) found
    ∙ from (thread_on w.state.records p) refl ∙ sym (ap (cost_of w) (event-for w p))
  where
    budget : v.state.limits.quantum - used_there v.state p ≡ w.state.limits.quantum - used_there w.state p
    budget = ap (λ l. l.quantum - used_there v.state p) limits ∙ ap (λ u. w.state.limits.quantum - u) used

    from : (o : Option ℕ) → thread_on w.state.records p ≡ o → cost_of v (event_for v p o) ≡ cost_of w (event_for w p o)
    from None is = refl
    from (Some t) is =
        let same : slice_on v p t ≡ slice_on w p t = ap (λ c. slice c (v.state.limits.quantum - used_there v.state p))
        (contexts t is) ∙ ap (slice (context_of w t)) budget in
        ap (λ s. cost_of v (event_of_slice p (number_of v p) s)) same
        ∙ slice-cost v w p (number_of v p) (number_of w p) (slice_on w p t) budget

-- a processor's next turn is its own
slice-on : (p d : ℕ) (s : Slice) → processor_of (event_of_slice p d s) ≡ Some p
slice-on p d s = at s.trap refl
  where
    at : (o : Option ScriptTrap) → s.trap ≡ o → processor_of (event_of_slice p d s) ≡ Some p
    at None is = rw is refl
    at (Some trap) is = rw is refl

event-on : (w : World) (p : ℕ) → processor_of (processor_event w p) ≡ Some p
event-on w p = ap processor_of (event-for w p) ∙ from (thread_on w.state.records p)
  where
    from : (o : Option ℕ) → processor_of (event_for w p o) ≡ Some p
    from None = refl
    from (Some t) = slice-on p (number_of w p) (slice_on w p t)

-- ---- contexts

-- the world's state is in order, and each thread has a context
pub record IsOrderly (w : World) : Type 0 where
  pub order : IsInOrder w.state
  pub contexts : length w.state.records ≤ length w.contexts

-- what stands at another number stays
pub set-kept : {A : Type 0} (xs : List A) (n k : ℕ) (x : A) → ¬ (k ≡ suc (n - 1))
    → at_number (set_number xs n x) k ≡ at_number xs k
set-kept xs n k x other = from (number-set xs n x k)
  where
    from : (at_number (set_number xs n x) k ≡ at_number xs k)
        ⊎ ((k ≡ suc (n - 1)) × (at_number (set_number xs n x) k ≡ Some x))
        → at_number (set_number xs n x) k ≡ at_number xs k
    from (inl same) = same
    from (inr (at, _)) = absurd (other at)

-- only the thread that a reply names changes its context
contexts-kept : (w : World) (q u : ℕ) (r : Reply) → ((t : ℕ) → thread_in r ≡ Some t → ¬ (u ≡ suc (t - 1)))
    → at_number (contexts_after w q r) u ≡ at_number w.contexts u
contexts-kept w q u (reply.Winner t number total delivered) other = set-kept w.contexts t u _ (other t refl)
contexts-kept w q u (reply.Expired t ticks) other = set-kept w.contexts t u _ (other t refl)
contexts-kept w q u (reply.Trapped t ticks outcome ends) other = set-kept w.contexts t u _ (other t refl)
contexts-kept w q u (reply.Ticket n) other = refl
contexts-kept w q u (reply.Currency n) other = refl
contexts-kept w q u (reply.Thread n) other = refl
contexts-kept w q u (reply.Funded n m) other = refl
contexts-kept w q u reply.Done other = refl
contexts-kept w q u (reply.Killed t) other = refl
contexts-kept w q u (reply.List kind) other = refl
contexts-kept w q u reply.Idle other = refl
contexts-kept w q u (reply.Refused refusal) other = refl

-- as many contexts
contexts-length : (w : World) (q : ℕ) (r : Reply) → length (contexts_after w q r) ≡ length w.contexts
contexts-length w q (reply.Winner t number total delivered) = length-set w.contexts (t - 1) _
contexts-length w q (reply.Expired t ticks) = length-set w.contexts (t - 1) _
contexts-length w q (reply.Trapped t ticks outcome ends) = length-set w.contexts (t - 1) _
contexts-length w q (reply.Ticket n) = refl
contexts-length w q (reply.Currency n) = refl
contexts-length w q (reply.Thread n) = refl
contexts-length w q (reply.Funded n m) = refl
contexts-length w q reply.Done = refl
contexts-length w q (reply.Killed t) = refl
contexts-length w q (reply.List kind) = refl
contexts-length w q reply.Idle = refl
contexts-length w q (reply.Refused refusal) = refl

-- The contexts after a command are as many, as the records are; or both have one more, in the first free place or at
-- the end.
abbrev pub ContextsCome : World → List Context → List Record → Type 0
ContextsCome w contexts records =
    ((context : Context) × (r : Record) × (contexts ≡ placed w.contexts (free_threads w.state) context)
    × (records ≡ placed w.state.records (free_threads w.state) r))
    ⊎ ((contexts ≡ w.contexts) × (length records ≡ length w.state.records))

-- a command that makes no thread, refused or not
command-kept : (s : State) (o : Option Refusal) (next : Step) → length next.state.records ≡ length s.records
    → length (unless_refused s o next).state.records ≡ length s.records
command-kept s None next same = same
command-kept s (Some why) next same = refl

pub contexts-come : (program : Program) (w : World) (c : Command)
    → ContextsCome w (contexts_after_command program w c (command_step w.state c).reply)
    (command_step w.state c).state.records
contexts-come program w (MakeThread name script) = at (command_refusal w.state (MakeThread name script))
  where
    at : (o : Option Refusal) → ContextsCome w (contexts_after_command program w (MakeThread name script)
        (unless_refused w.state o (command_effect w.state (MakeThread name script))).reply)
        (unless_refused w.state o (command_effect w.state (MakeThread name script))).state.records
    at None = inl (new_context program script, newborn, refl, refl)
    at (Some why) = inr (refl, refl)
contexts-come program w (MakeFunded amount currency name script) =
    at (command_refusal w.state (MakeFunded amount currency name script))
  where
    at : (o : Option Refusal)
        → ContextsCome w (contexts_after_command program w (MakeFunded amount currency name script)
        (unless_refused w.state o (command_effect w.state (MakeFunded amount currency name script))).reply)
        (unless_refused w.state o (command_effect w.state (MakeFunded amount currency name script))).state.records
    at None = inl (new_context program script, newborn, refl, refl)
    at (Some why) = inr (refl, refl)
contexts-come program w (Kill thread) =
    inr (refl, command-kept w.state (command_refusal w.state (Kill thread)) (command_effect w.state (Kill thread)) (killed-length w.state (unwrap_or (thread_meant w.state thread) 0)))
contexts-come program w c = inr (refl, command-kept w.state (command_refusal w.state c) (command_effect w.state c) refl)

-- each thread still has a context
come-few : (w : World) (contexts : List Context) (records : List Record) → IsOrderly w → ContextsCome w contexts records
    → length records ≤ length contexts
come-few w contexts records orderly (inr (same, few)) = omega (arith, orderly.contexts, ap length same, few)
come-few w contexts records orderly (inl (context, r, contexts_is, records_is)) = from
    (length-placed w.contexts (free_threads w.state) context) (length-placed w.state.records (free_threads w.state) r)
  where
    free : List ℕ
    free = free_threads w.state

    from : ((free ≡ []) × (length (placed w.contexts free context) ≡ length w.contexts + 1))
        ⊎ (length (placed w.contexts free context) ≡ length w.contexts)
        → ((free ≡ []) × (length (placed w.state.records free r) ≡ length w.state.records + 1))
        ⊎ (length (placed w.state.records free r) ≡ length w.state.records) → length records ≤ length contexts
    from (inl (none, more)) (inl (_, one)) =
        omega (arith, ap length contexts_is, ap length records_is, more, one, orderly.contexts)
    from (inl (none, more)) (inr as_many) =
        omega (arith, ap length contexts_is, ap length records_is, more, as_many, orderly.contexts)
    from (inr same) (inr as_many) =
        omega (arith, ap length contexts_is, ap length records_is, same, as_many, orderly.contexts)
    from (inr same) (inl (none, one)) =
        let more : length (placed w.contexts free context) ≡ length w.contexts + 1 =
        ap (λ places. length (placed w.contexts places context)) none ∙ length-append w.contexts (context ∷ []) in
        omega (arith, same, more)

-- and a thread that runs has the same
come-kept : (w : World) (contexts : List Context) (records : List Record) → IsOrderly w
    → ContextsCome w contexts records → (p t used : ℕ) → status_of w.state.records t ≡ Some (status.Running p used)
    → IsBetween 1 (length w.state.records) t → at_number contexts t ≡ at_number w.contexts t
come-kept w contexts records orderly (inr (same, few)) p t used runs there = ap (λ xs. at_number xs t) same
come-kept w contexts records orderly (inl (context, r, contexts_is, records_is)) p t used runs there =
    ap (λ xs. at_number xs t) contexts_is ∙ number-stays w.contexts (free_threads w.state) context
    (get_or w.contexts (t - 1) context) t other numbered ∙ sym numbered
  where
    numbered : at_number w.contexts t ≡ Some (get_or w.contexts (t - 1) context)
    numbered = number-some w.contexts t context (there.0, omega (arith, there.1, orderly.contexts))

    other : ¬ (slice_get (free_threads w.state) 0 ≡ Some (t - 1))
    other first =
        let number : suc (t - 1) ≡ t = omega (arith, there.0) in
        let dead : status_of w.state.records (suc (t - 1)) ≡ Some status.Dead =
        free-dead w.state orderly.order.gaps orderly.order.removed (t - 1) first in
        let never : Some (status.Running p used) ≡ Some status.Dead = sym runs
        ∙ ap (status_of w.state.records) (sym number) ∙ dead in
        cc

-- ---- turns

-- somebody runs on the processor after the turn, if the turn is the console's, which may kill
abbrev pub IsSpared : ℕ → State → ℕ → Type 0
IsSpared actor s p = actor ≡ 0 → is_none (thread_on s.records p) ≡ false

-- the world stays orderly, and what the next turn of another processor costs stays, unless its thread was killed
abbrev pub TurnKeeps : World → ℕ → TurnMade → Type 0
TurnKeeps w actor turn = IsOrderly turn.world × ((p : ℕ) → ¬ (p ≡ actor) → 1 ≤ p → IsSpared actor turn.world.state p
    → cost_of turn.world (processor_event turn.world p) ≡ cost_of w (processor_event w p))

-- an event of a processor kills nobody
not-killed : (s : State) (e : Event) (q t : ℕ) → processor_of e ≡ Some q → ¬ ((step s e).reply ≡ reply.Killed t)
not-killed s e q t on kills = let never : None ≡ Some q = sym (event-kills s e t kills).0 ∙ on in cc

processor-keeps : (w : World) (q : ℕ) (e : Event) → processor_of e ≡ Some q → IsOrderly w
    → TurnKeeps w q (processor_turn w q e)
processor-keeps w q e on orderly =
    let sizes = step-sizes w.state e q on in (
      record {
        order = step-order w.state e orderly.order;
        contexts = omega (arith, orderly.contexts, sizes.1, contexts-length w q (step w.state e).reply);
      },
      λ p other positive spared.
          let apart : ¬ (processor_of e ≡ Some p) = λ same. other (number p (sym same ∙ on)) in
          let alive : (u : ℕ) → thread_on w.state.records p ≡ Some u → ¬ ((step w.state e).reply ≡ reply.Killed u) =
          λ u found. not-killed w.state e q u on in
          cost-same (processor_turn w q e).world w p (step-limits w.state e)
          (step-used_there w.state e p orderly.order apart alive) (step-found w.state e p orderly.order apart alive)
          (λ t found. ap (λ o. unwrap_or o (record { rest = []; accumulator = 0 }))
          (contexts-kept w q t (step w.state e).reply
          (λ named is. named-apart w.state e p q named t on (λ same. other (sym same)) is found))),
    )
  where
    number : (p : ℕ) → Some p ≡ Some q → p ≡ q
    number p same = cc

-- a wake names no thread that runs or ran, and kills nobody
wake-names : (s : State) (t : ℕ)
    → (thread_in (step s (event.Wake t)).reply ≡ None) × ((u : ℕ) → ¬ ((step s (event.Wake t)).reply ≡ reply.Killed u))
wake-names s t = at (event_refusal s (event.Wake t))
  where
    at : (o : Option Refusal) → (thread_in (unless_refused s o (wake s t)).reply ≡ None)
        × ((u : ℕ) → ¬ ((unless_refused s o (wake s t)).reply ≡ reply.Killed u))
    at None = (refl, λ u e. cc)
    at (Some why) = (refl, λ u e. cc)

wake-keeps : (w : World) (actor t : ℕ) → IsOrderly w → TurnKeeps w actor (processor_turn w actor (event.Wake t))
wake-keeps w actor t orderly =
    let e : Event = event.Wake t in
    let sizes = other-sizes w.state e (λ same. cc) in (
      record {
        order = step-order w.state e orderly.order;
        contexts = omega (arith, orderly.contexts, sizes.1, contexts-length w actor (step w.state e).reply);
      },
      λ p other positive spared.
          let alive : (u : ℕ) → thread_on w.state.records p ≡ Some u → ¬ ((step w.state e).reply ≡ reply.Killed u) =
          λ u found. (wake-names w.state t).1 u in
          cost-same (processor_turn w actor e).world w p (step-limits w.state e) (step-used_there w.state e p
          orderly.order (nobody p) alive) (step-found w.state e p orderly.order (nobody p) alive)
          (λ u found. ap (λ o. unwrap_or o (record { rest = []; accumulator = 0 }))
          (contexts-kept w actor u (step w.state e).reply
          (λ named is. let none : None ≡ Some named = sym (wake-names w.state t).0 ∙ is in cc))),
    )
  where
    nobody : (p : ℕ) → ¬ (None ≡ Some p)
    nobody p e = cc

-- who runs on a processor wasn't killed if somebody runs there afterwards
runs-on : (s : State) (e : Event) (p : ℕ) → IsInOrder s → is_none (thread_on (step s e).state.records p) ≡ false
    → (t : ℕ) → thread_on s.records p ≡ Some t → ¬ ((step s e).reply ≡ reply.Killed t)
runs-on s e p order runs t found kills = let idle : true ≡ false =
    sym (ap is_none (step-idle s e p t order kills found)) ∙ runs in cc

command-keeps : (program : Program) (w : World) (c : Command) (cs : List Command) → IsOrderly w
    → TurnKeeps w 0 (command_turn program w c cs)
command-keeps program w c cs orderly =
    let grown = command-grown w.state c in
    let comes = contexts-come program w c in (
      record {
        order = step-order w.state (event.Command c) orderly.order;
        contexts = come-few w _ _ orderly comes;
      },
      λ p other positive spared.
          let alive = runs-on w.state (event.Command c) p orderly.order (spared refl) in
          cost-same (command_turn program w c cs).world w p grown.0 (step-used_there w.state (event.Command c) p
          orderly.order (nobody p) alive) (step-found w.state (event.Command c) p orderly.order (nobody p) alive)
          (λ t found.
          let runs = found-runs w.state.records p t found in
          let there = numbered w.state.records t (status.Running p runs.0) runs.1 in
          ap (λ o. unwrap_or o (record { rest = []; accumulator = 0 }))
          (come-kept w _ _ orderly comes p t runs.0 runs.1 (there.0, omega (arith, there.1)))),
    )
  where
    nobody : (p : ℕ) → ¬ (None ≡ Some p)
    nobody p e = cc

console-keeps : (program : Program) (w : World) (commands : List Command) → IsOrderly w
    → TurnKeeps w 0 (console_turn program w commands)
console-keeps program w [] orderly = (orderly, λ p other positive spared. refl)
console-keeps program w (c ∷ cs) orderly = command-keeps program w (resolved w.tickets (next_name w) c) cs orderly

pub turn-keeps : (program : Program) (w : World) (actor : ℕ) → IsOrderly w
    → TurnKeeps w actor (system_turn program w actor)
turn-keeps program w actor orderly = at (actor == 0) refl
  where
    makes : (b : Bool) → nat_le actor program.limits.processors ≡ b
        → TurnKeeps w actor
        (processor_turn w actor (cond b (processor_event w actor) (event.Wake (actor - program.limits.processors))))
    makes true is = processor-keeps w actor (processor_event w actor) (event-on w actor) orderly
    makes false is = wake-keeps w actor (actor - program.limits.processors) orderly

    at : (b : Bool) → (actor == 0) ≡ b → TurnKeeps w actor
        (cond b (console_turn program w w.commands) (processor_turn w actor (actor_event program w actor)))
    at true is = let console : actor ≡ 0 = eqb-true actor 0 is in
        subst (λ a. TurnKeeps w a (console_turn program w w.commands)) (sym console)
        (console-keeps program w w.commands orderly)
    at false is = makes (nat_le actor program.limits.processors) refl

-- a turn takes no thread away
pub turn-grows : (program : Program) (w : World) (actor : ℕ)
    → length w.state.records ≤ length (system_turn program w actor).world.state.records
turn-grows program w actor = at (actor == 0)
  where
    grows : (e : Event) → length w.state.records ≤ length (step w.state e).state.records
    grows e = omega (arith, (step-grown w.state e).1.1)

    console : (commands : List Command)
        → length w.state.records ≤ length (console_turn program w commands).world.state.records
    console [] = omega arith
    console (c ∷ cs) = grows (event.Command (resolved w.tickets (next_name w) c))

    at : (b : Bool) → length w.state.records ≤ length (cond b (console_turn program w w.commands)
        (processor_turn w actor (actor_event program w actor))).world.state.records
    at true = console w.commands
    at false = grows (actor_event program w actor)
