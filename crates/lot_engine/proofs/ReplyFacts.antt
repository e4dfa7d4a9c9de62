-- The threads that replies name.
use Rattle.lot_engine.proofs.Common.{Action, BadAmount, BadName, Bool, Command, Drawn, Full, IsBetween, IsInOrder, Kill, List, MakeFunded, MakeThread, MakesNone, MakesThread, NameTaken, NoCurrency, NoScript, None, OfDraw, OfRun, OneMore, Option, Program, Record, Refusal, RemoveThread, Some, State, Status, Step, Thread, World, all-pass, ap, are_threads_full, are_tickets_full, arith, at_number-suc, command_effect, command_refusal, command_step, cond, contains-at, contexts_after_command, contexts_with, currency_meant, draw, drawn-numbered, eqb-false, event_effect, event_refusal, false, free_threads, inl, inr, is_bad_amount, is_no_script, is_none, is_none_free, is_taken, is_thread_name, killed-length, leb-false, length, length-append, length-set, ltb-false, map, nat_le, nat_lt, new_context, newborn, next_thread, not, option_map, or_parts, placed, ready_threads, refl, script_in, slice_get, slice_get_within, status_of, step, suc, sym, thread_at, thread_given, thread_meant, thread_there, true, unless_refused, unwrap_or, weight_of, winner, with_thread, zero, ℕ, [], ◌&&◌, ◌<◌, ◌==◌, ◌||◌, ◌∙◌, ◌∷◌, ◌≡◌}
use Rattle.lot_machine.specs.declared.event.Event.TheVariants as event
use Rattle.lot_engine.proofs.PlaceFacts.{number-placed}

-- ---- commands

-- the first free place, if there is one, is one of the threads'
free-within : (s : State) → IsInOrder s → (place : ℕ) → slice_get (free_threads s) 0 ≡ Some place
    → place < length s.threads
free-within s order place = by s.limits.reuse refl
  where
    by : (reuse : Bool) → s.limits.reuse ≡ reuse → slice_get (cond {A = List ℕ} reuse s.freed.threads []) 0 ≡ Some place
        → place < length s.threads
    by false is first = cc
    by true is first = slice_get_within s.threads place None
        ((order.gaps is).threads.each place (contains-at s.freed.threads 0 place first))

with_thread-more : (s : State) (name : List ℕ) (script : ℕ) → IsInOrder s → is_no_script s script ≡ false
    → are_threads_full s ≡ false → OneMore s (with_thread s name script) (next_thread s)
with_thread-more s name script order known room =
    let parts = or_parts (script == 0) (nat_lt s.limits.scripts script) known in
    let few : free_threads s ≡ [] → nat_le s.limits.threads (length s.threads) ≡ false =
    λ none. sym (ap (λ places. is_none_free places && nat_le s.limits.threads (length s.threads)) none) ∙ room in
    record {
      next = record { number = refl; within = free-within s order };
      thread = record { name = name; script = script };
      threads = refl;
      records = λ r. same-length s.records (free_threads s) newborn r;
      script = (omega (arith, eqb-false script 0 parts.0), ltb-false s.limits.scripts script parts.1);
      limits = refl;
      room = λ none. omega (arith, leb-false s.limits.threads (length s.threads) (few none));
    }
  where
    same-length : (records : List Record) (free : List ℕ) (x y : Record)
        → length (placed records free x) ≡ length (placed records free y)
    same-length records [] x y = length-append records (x ∷ []) ∙ sym (length-append records (y ∷ []))
    same-length records (place ∷ free) x y = length-set records place x ∙ sym (length-set records place y)

-- a new thread's script is its own, so its context is that of a thread with this script
made-context : (program : Program) (w : World) (name : List ℕ) (script : ℕ) → IsInOrder w.state
    → placed w.contexts (free_threads w.state)
    (new_context program (script_in (with_thread w.state name script) (next_thread w.state)))
    ≡ placed w.contexts (free_threads w.state) (new_context program script)
made-context program w name script order =
    let made : Thread = record { name = name; script = script } in
    let there : thread_at (with_thread w.state name script).threads (next_thread w.state) ≡ Some made =
    number-placed w.state.threads (free_threads w.state) (next_thread w.state) made
    (record { number = refl; within = free-within w.state order }) in
    ap (λ k. placed w.contexts (free_threads w.state) (new_context program k))
    (ap (λ o. unwrap_or (option_map (λ (t : Thread). t.script) o) 0) there)

kept-same : (s : State) (c : Command) (o : Option Refusal) (next : Step) → MakesNone s s
    → ((o ≡ None) → MakesThread s next.state next.reply)
    → MakesThread s (unless_refused s o next).state (unless_refused s o next).reply
kept-same s c None next none made = made refl
kept-same s c (Some refusal) next none made = none

unchanged : (s : State) → MakesNone s s
unchanged s = record { threads = inl refl; records = refl; limits = refl }

pub command-makes : (s : State) (c : Command) → IsInOrder s
    → MakesThread s (command_step s c).state (command_step s c).reply
command-makes s (MakeThread name script) order =
    kept-same s (MakeThread name script) _ (command_effect s (MakeThread name script)) (unchanged s) (λ e.
    let passed = all-pass ((not (is_thread_name s.limits name), BadName) ∷ (is_taken s name, NameTaken)
    ∷ (is_no_script s script, NoScript) ∷ (are_threads_full s, Full) ∷ []) e in
    with_thread-more s name script order passed.1.1.0 passed.1.1.1.0)
command-makes s (MakeFunded amount currency name script) order =
    kept-same s (MakeFunded amount currency name script) _ (command_effect s (MakeFunded amount currency name script))
    (unchanged s) (λ e.
    let passed = all-pass ((is_bad_amount amount, BadAmount) ∷ (is_none (currency_meant s currency), NoCurrency)
    ∷ (not (is_thread_name s.limits name), BadName) ∷ (is_taken s name, NameTaken) ∷ (is_no_script s script, NoScript)
    ∷ (are_tickets_full s || are_threads_full s, Full) ∷ []) e in
    let more = with_thread-more s name script order passed.1.1.1.1.0
    (or_parts (are_tickets_full s) (are_threads_full s) passed.1.1.1.1.1.0).1 in
    record { next = more.next; thread = more.thread; threads = more.threads; records = more.records; script = more.script; limits = more.limits; room = more.room })
command-makes s (RemoveThread thread) order =
    kept-same s (RemoveThread thread) _ (command_effect s (RemoveThread thread)) (unchanged s)
    (λ _. record { threads = inr (unwrap_or (thread_meant s thread) 0, refl); records = refl; limits = refl })
command-makes s (Kill thread) order =
    kept-same s (Kill thread) _ (command_effect s (Kill thread)) (unchanged s)
    (λ _. record { threads = inl refl; records = killed-length s (unwrap_or (thread_meant s thread) 0); limits = refl })
command-makes s other order = kept-same s other (command_refusal s other) (command_effect s other) (unchanged s)
    (λ _. record { threads = inl refl; records = refl; limits = refl })

-- the contexts after a command are those of the threads before it, and of the thread that it makes
pub command-contexts : (program : Program) (w : World) (c : Command) → IsInOrder w.state
    → contexts_with program w.state (command_step w.state c).state w.contexts
    (thread_given (command_step w.state c).reply) ≡ contexts_after_command program w c (command_step w.state c).reply
command-contexts program w (MakeThread name script) order = at (command_refusal w.state (MakeThread name script)) refl
  where
    at : (o : Option Refusal) → command_refusal w.state (MakeThread name script) ≡ o
        → contexts_with program w.state
        (unless_refused w.state o (command_effect w.state (MakeThread name script))).state w.contexts
        (thread_given (unless_refused w.state o (command_effect w.state (MakeThread name script))).reply)
        ≡ contexts_after_command program w (MakeThread name script)
        (unless_refused w.state o (command_effect w.state (MakeThread name script))).reply
    at None is = made-context program w name script order
    at (Some why) is = refl
command-contexts program w (MakeFunded amount currency name script) order =
    at (command_refusal w.state (MakeFunded amount currency name script)) refl
  where
    at : (o : Option Refusal) → command_refusal w.state (MakeFunded amount currency name script) ≡ o
        → contexts_with program w.state
        (unless_refused w.state o (command_effect w.state (MakeFunded amount currency name script))).state w.contexts
        (thread_given
        (unless_refused w.state o (command_effect w.state (MakeFunded amount currency name script))).reply)
        ≡ contexts_after_command program w (MakeFunded amount currency name script)
        (unless_refused w.state o (command_effect w.state (MakeFunded amount currency name script))).reply
    at None is = made-context program w name script order
    at (Some why) is = refl
command-contexts program w c order = at (command_refusal w.state c) refl
  where
    at : (o : Option Refusal) → command_refusal w.state c ≡ o
        → contexts_with program w.state (unless_refused w.state o (command_effect w.state c)).state w.contexts
        (thread_given (unless_refused w.state o (command_effect w.state c)).reply)
        ≡ contexts_after_command program w c (unless_refused w.state o (command_effect w.state c)).reply
    at None is = refl
    at (Some why) is = refl

-- ---- draws

-- who has a status is one of the numbered
pub numbered : (records : List Record) (t : ℕ) (status : Status) → status_of records t ≡ Some status
    → IsBetween 1 (length records) t
numbered records zero status e = cc
numbered records (suc i) status e =
    from (slice_get records i) refl (sym (ap (option_map (λ (r : Record). r.status)) (at_number-suc records i)) ∙ e)
  where
    from : (o : Option Record) → slice_get records i ≡ o → option_map (λ (r : Record). r.status) o ≡ Some status
        → IsBetween 1 (length records) (suc i)
    from None is h = cc
    from (Some r) is h = (omega arith, omega (arith, slice_get_within records i r is))

drawn-names : (s : State) (p d : ℕ) → OfDraw (length s.records) (draw s p d).reply
drawn-names s p d = at (winner (map (weight_of s) (ready_threads s.records)) d) refl
  where
    at : (o : Option Drawn) → winner (map (weight_of s) (ready_threads s.records)) d ≡ o
        → OfDraw (length s.records) (draw s p d).reply
    at None is = rw is tt
    at (Some w) is = rw is (drawn-numbered s d w is)

refused-draw : (s : State) (count : ℕ) (o : Option Refusal) (next : Step) → OfDraw count next.reply
    → OfDraw count (unless_refused s o next).reply
refused-draw s count None next is = is
refused-draw s count (Some refusal) next is = tt

pub draw-names : (s : State) (p d : ℕ) → OfDraw (length s.records) (step s (event.Draw p d)).reply
draw-names s p d = refused-draw s (length s.records) (event_refusal s (event.Draw p d)) (draw s p d) (drawn-names s p d)

-- ---- expiries and traps

refused-run : (s : State) (t : ℕ) (o : Option Refusal) (next : Step) → OfRun t next.reply
    → OfRun t (unless_refused s o next).reply
refused-run s t None next is = is
refused-run s t (Some refusal) next is = tt

pub expire-names : (s : State) (p : ℕ) → OfRun (thread_there s p) (step s (event.Expire p)).reply
expire-names s p =
    refused-run s (thread_there s p) (event_refusal s (event.Expire p)) (event_effect s (event.Expire p)) refl

pub trap-names : (s : State) (p ran : ℕ) (action : Action)
    → OfRun (thread_there s p) (step s (event.Trap p ran action)).reply
trap-names s p ran action = refused-run s (thread_there s p) (event_refusal s (event.Trap p ran action))
    (event_effect s (event.Trap p ran action)) refl
