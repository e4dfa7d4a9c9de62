-- The fields of a system after a turn represent the world after it.
use Rattle.lot_engine.proofs.Common.{All-push, Answered, AreAt, Bool, Command, Context, Dead, Event, IfSome, IsAt, IsBetween, IsHeld, IsInOrder, IsKept, IsLegal, IsLegalInTime, IsScript, IsSlice, IsSliceOf, IsWithinBounds, IsWork, IsWorkIn, KeepsThreads, List, MakesIn, MakesThread, Matches, None, OfDraw, OfGiven, OfRun, Option, Parts, Place, Program, Record, Reply, ScriptTrap, Sizes, Some, State, Thread, Threads, Work, World, action_of, ap, arith, at_number, command_step, command_turn, console_turn, context_at, context_of, contexts_after, contexts_after_command, contexts_with, count_by, delivered_to, delivered_to_place, done_of, drop, drop-cons, drop-drop, drop_of_length-le, event_given, event_of_slice, false, first_place, found-runs, free_threads, generator_of, get_or, get_or_from_slice_get, if◌then◌else◌, inl, inr, is_some, le-leb, length, length-append, length-placed, length-set, ltb-false, ltb-true, nat_lt, ne_eqb, newborn, next_name, number-some, number_delivered, number_from, number_of, option_flatten, option_map, place_of, placed, places_after, processor_event, processor_turn, refl, resolved, script_lines, seed_from, set_number, slice, slice_get, slice_on, status_of, step, subst, suc, sum_by_push, sym, system_run, system_turn, takes_number, thread_at, thread_given, thread_on, thread_there, tickets_after, true, unwrap_or, used_by, used_there, ℕ, [], ◌++◌, ◌+◌, ◌-◌, ◌<◌, ◌==◌, ◌↔◌, ◌∙◌, ◌∷◌, ◌≡◌, ◌≤◌, ◌⊎◌}
use Rattle.lot_machine.specs.declared.record.Status.TheVariants.{Running}
use Rattle.lot_machine.specs.declared.command.Command.TheVariants.{List as Listing}
use Rattle.lot_machine.specs.declared.event.Event.TheVariants as event
use Rattle.lot_machine.specs.declared.reply.Reply.TheVariants as reply
use Rattle.lot_engine.proofs.StepFacts.{draws-same, expires-same, traps-same}
use Rattle.lot_engine.proofs.InOrder.{run-in-order}
use Rattle.lot_engine.proofs.ReplyFacts.{command-contexts, command-makes, numbered, draw-names, expire-names, trap-names}
use Rattle.lot_engine.proofs.PlaceFacts.{placed-lengths, number-or, if-delivered_to, scripted, at-lengths, at-number, at-place, at-set}

-- ---- what is kept

pub kept-in : (program : Program) (s after : State) (made : Option ℕ) → IsKept program s → MakesIn s after made
    → IsKept program after
kept-in program s after None kept is =
    let long = as-long is.threads in
    let room : length s.threads ≤ after.limits.threads = rw is.limits kept.count in
    record { limits = is.limits ∙ kept.limits; records = is.records ∙ kept.records ∙ sym long; count = rw long room }
  where
    as-long : (after.threads ≡ s.threads) ⊎ ((t : ℕ) × (after.threads ≡ set_number s.threads t None))
        → length after.threads ≡ length s.threads
    as-long (inl same) = ap length same
    as-long (inr (t, one_less)) = ap length one_less ∙ length-set s.threads (t - 1) None
kept-in program s after (Some n) kept is =
    let records : length after.records ≡ length after.threads =
    is.records newborn ∙ placed-lengths s.records s.threads (free_threads s) newborn (Some is.thread) kept.records
    ∙ sym (ap length is.threads) in
    record { limits = is.limits ∙ kept.limits; records = records; count = few (length-placed s.threads (free_threads s) (Some is.thread)) }
  where
    few : ((free_threads s ≡ []) × (length (placed s.threads (free_threads s) (Some is.thread)) ≡ length s.threads + 1))
        ⊎ (length (placed s.threads (free_threads s) (Some is.thread)) ≡ length s.threads)
        → length after.threads ≤ after.limits.threads
    few (inl (none, longer)) =
        omega (arith, ap length is.threads, longer, is.room none, ap (λ (sizes : Sizes). sizes.threads) is.limits)
    few (inr same) =
        omega (arith, ap length is.threads, same, kept.count, ap (λ (sizes : Sizes). sizes.threads) is.limits)

pub kept-made : (program : Program) (s after : State) (r : Reply) → IsKept program s → MakesThread s after r
    → IsKept program after
kept-made program s after r kept makes = kept-in program s after (thread_given r) kept makes

-- ---- the console

module _ (program : Program) (w : World) (s : State) (places : List Place) (seeds tickets : List ℕ) (spent : ℕ)
    (held : IsHeld program w s places seeds tickets spent) where
  -- a command is left if the world has one
  pub command-left : ¬ (◌≡◌ {A = ℕ} 0 0 × (w.commands ≡ [])) → spent < length program.commands
  command-left some = at (nat_lt spent (length program.commands)) refl
    where
      at : (b : Bool) → nat_lt spent (length program.commands) ≡ b → spent < length program.commands
      at true is = ltb-true spent (length program.commands) is
      at false is = absurd (some
          (refl, sym held.commands ∙ drop_of_length-le program.commands (ltb-false spent (length program.commands) is)))

  -- no command is left if and only if as many were run as there are
  pub commands-ended : (commands : List Command) → commands ≡ program.commands → (actor : ℕ) → actor ≡ 0
      → (length commands ≤ spent) ↔ ((actor ≡ 0) × (w.commands ≡ []))
  commands-ended commands same actor zero_is = (
    λ most. (zero_is, sym held.commands ∙ drop_of_length-le program.commands (omega (arith, most, ap length same))),
    λ ended. none (nat_lt spent (length program.commands)) refl ended.1,
  )
    where
      none : (b : Bool) → nat_lt spent (length program.commands) ≡ b → w.commands ≡ [] → length commands ≤ spent
      none false is e = omega (arith, ltb-false spent (length program.commands) is, ap length same)
      none true is e =
          let left : drop spent program.commands ≡ get_or program.commands spent (Listing Threads)
          ∷ drop (suc spent) program.commands =
          drop-cons program.commands spent (Listing Threads) (ltb-true spent (length program.commands) is) in
          absurd (cons-nil (sym left ∙ held.commands ∙ e))
        where
          cons-nil : {x : Command} {xs : List Command} → x ∷ xs ≡ [] → ⊥
          cons-nil e = cc

  pub command-next : (commands : List Command) (c : Command) → spent < length program.commands
      → commands ≡ program.commands → slice_get commands spent ≡ Some c
      → w.commands ≡ c ∷ drop (spent + 1) program.commands
  command-next commands c below same is =
      let next : spent + 1 ≡ suc spent = omega arith in
      let first : c ≡ get_or program.commands spent c = sym (get_or_from_slice_get commands spent c c is)
      ∙ ap (λ (cs : List Command). get_or cs spent c) same in
      sym held.commands ∙ drop-cons program.commands spent c below ∙ ap (λ (x : Command). x
      ∷ drop (suc spent) program.commands) (sym first) ∙ ap (λ n. c ∷ drop n program.commands) (sym next)

  -- the next command, for the ticket that it names
  module _ (next : Command) (cs : List Command) (is : w.commands ≡ next ∷ cs) (c : Command)
      (resolves : c ≡ resolved tickets (next_name w) next) (after : State) (r : Reply)
      (state : after ≡ (step s (event.Command c)).state) (replied : r ≡ (step s (event.Command c)).reply) where
    pub command-made : IsInOrder s → MakesThread s after r
    command-made order = rw (state, replied) (command-makes s c order)

    its-command : c ≡ resolved w.tickets (next_name w) next
    its-command = resolves ∙ ap (λ (ts : List ℕ). resolved ts (next_name w) next) held.tickets_are

    command-turn : system_turn program w 0 ≡ command_turn program w c cs
    command-turn = let world : system_turn program w 0 ≡ console_turn program w (next ∷ cs) = rw is refl in world
        ∙ ap (λ x. command_turn program w x cs) (sym its-command)

    pub command-answer : (system_turn program w 0).answer ≡ Answered (event.Command c) r
    command-answer = rw (command-turn, replied, held.state) refl

    pub command-held : IsInOrder s → cs ≡ drop (spent + 1) program.commands → (now : List Place)
        → AreAt program after.threads now (contexts_with program s after w.contexts (thread_given r))
        → (named : List ℕ) → named ≡ tickets_after tickets (next_name w) c r
        → IsHeld program (system_turn program w 0).world after now seeds named (spent + 1)
    command-held order left now at named follows =
        let ends : after ≡ (step w.state (event.Command c)).state = state
        ∙ ap (λ (x : State). (step x (event.Command c)).state) held.state in
        let replies : r ≡ (step w.state (event.Command c)).reply = replied
        ∙ ap (λ (x : State). (step x (event.Command c)).reply) held.state in
        let same : contexts_with program s after w.contexts (thread_given r)
        ≡ contexts_after_command program w c (command_step w.state c).reply =
        rw (state, replied, held.state) (command-contexts program w c (subst IsInOrder held.state order)) in
        rw command-turn (record {
          state = ends;
          kept = kept-made program s after r held.kept (command-made order);
          places_at = subst (AreAt program after.threads now) same at;
          seeds = held.seeds;
          wide = held.wide;
          commands = sym left;
          names = sym (drop-drop 1 spent program.names) ∙ ap (drop 1) held.names;
          tickets_are = follows ∙ ap (λ (ts : List ℕ). tickets_after ts (next_name w) c r) held.tickets_are
              ∙ ap (tickets_after w.tickets (next_name w) c) replies;
        })

-- ---- processors

pub system_turn-processor : (program : Program) (w : World) (p : ℕ) → 0 < p → p ≤ program.limits.processors
    → system_turn program w p ≡ processor_turn w p (processor_event w p)
system_turn-processor program w p some few = let no : (p == 0) ≡ false = ne_eqb p 0 (λ e. omega arith) in
    rw (no, le-leb p program.limits.processors few) refl

-- what the thread on a processor does is what the slice of its work does
pub slice-done : (program : Program) (w : World) (p : ℕ) (work : Work) (given : Parts) → IsWork program w p work
    → IsSliceOf program work given → IsSlice given → slice_on w p work.thread ≡ done_of given
slice-done program w p work given is of exact =
    let context : context_of w work.thread ≡ context_at given.lines given.start =
    sym is.means ∙ ap (λ lines. context_at lines work.place) (sym of.lines)
    ∙ ap (λ place. context_at given.lines place) (sym of.start) in
    let budget = sym is.budget ∙ sym of.budget in
    ap (λ b. slice (context_of w work.thread) b) budget ∙ ap (λ x. slice x given.budget) context ∙ exact.sliced

pub event-is : (program : Program) (w : World) (p drawn : ℕ) (work : Option Work) (given : Option Parts) → 0 < p
    → IsWorkIn program w p work → Matches program work given → IfSome given IsSlice
    → drawn ≡ number_of w p → processor_event w p ≡ event_given p drawn given
event-is program w p drawn None None some is matches exact e = rw (is some, e) refl
event-is program w p drawn None (Some given) some is matches exact e = absurd matches
event-is program w p drawn (Some work) None some is matches exact e = absurd matches
event-is program w p drawn (Some work) (Some given) some is matches exact e =
    rw (is.1.runs, slice-done program w p work given is.1 matches exact, e) refl

-- the thread on a processor has a number
pub there-between : (records : List Record) (p t : ℕ) → thread_on records p ≡ Some t → IsBetween 1 (length records) t
there-between records p t runs = let found = found-runs records p t runs in
    numbered records t (Running p found.0) found.1

slice-same : (s : State) (p drawn : ℕ) (given : Parts) (trap : Option ScriptTrap) → given.trap ≡ trap
    → KeepsThreads s (step s (event_of_slice p drawn (done_of given))).state
slice-same s p drawn given None is = rw is (expires-same s p)
slice-same s p drawn given (Some trap) is =
    rw is (traps-same s p given.ticks (action_of trap given.end.accumulator drawn))

pub given-same : (s : State) (p drawn : ℕ) (given : Option Parts)
    → KeepsThreads s (step s (event_given p drawn given)).state
given-same s p drawn None = draws-same s p drawn
given-same s p drawn (Some given) = slice-same s p drawn given given.trap refl

slice-names : (s : State) (p drawn : ℕ) (given : Parts) (trap : Option ScriptTrap) → given.trap ≡ trap
    → OfRun (thread_there s p) (step s (event_of_slice p drawn (done_of given))).reply
slice-names s p drawn given None is = rw is (expire-names s p)
slice-names s p drawn given (Some trap) is =
    rw is (trap-names s p given.ticks (action_of trap given.end.accumulator drawn))

-- ---- work

-- what a system answers for the thread on a processor is its work
module _ (program : Program) (w : World) (s : State) (places : List Place) (seeds tickets : List ℕ) (spent : ℕ)
    (held : IsHeld program w s places seeds tickets spent) (p : ℕ) where
  -- the thread's script is one of the program's
  pub script-there : (t script : ℕ) → IsBetween 1 (length s.records) t
      → option_map (λ t. t.script) (thread_at s.threads t) ≡ Some script → IsBetween 1 (length program.scripts) script
  script-there t script between is =
      let start : Context = record { rest = []; accumulator = 0 } in
      let count : IsBetween 1 (length s.threads) t = rw held.kept.records at between in
      let (thread, there, number) = scripted (thread_at s.threads t) script is in
      let at : IsAt program thread (get_or places (t - 1) first_place) (get_or w.contexts (t - 1) start) =
      at-number program s.threads places w.contexts t thread first_place start held.places_at count there in
      rw (← number) at.script

  pub work-is : (work : Work) (used : ℕ) → thread_on s.records p ≡ Some work.thread → used_by s.records p work.thread
      ≡ Some used → IsBetween 1 (length s.records) work.thread → used < s.limits.quantum
      → s.limits.quantum ≤ 1000 → option_map (λ t. t.script) (thread_at s.threads work.thread) ≡ Some work.script
      → (d : Place) → work.place ≡ get_or places (work.thread - 1) d → work.budget ≡ s.limits.quantum - used
      → IsScript (script_lines program work.script) → IsWork program w p work
  work-is work used runs there between below most script d context budget legal =
      let start : Context = record { rest = []; accumulator = 0 } in
      let count : IsBetween 1 (length s.threads) work.thread = rw held.kept.records at between in
      let (thread, known, number) = scripted (thread_at s.threads work.thread) work.script script in
      let at : IsAt program thread (get_or places (work.thread - 1) d) (get_or w.contexts (work.thread - 1) start) =
      at-number program s.threads places w.contexts work.thread thread d start held.places_at count known in
      let here : IsAt program thread work.place (context_of w work.thread) =
      rw (context, number-or w.contexts work.thread start between.0) at in
      let spent_there : used_there s p ≡ used = rw (runs, there) refl in
      let left : work.budget ≡ w.state.limits.quantum - used_there w.state p = budget ∙ ap (λ n. s.limits.quantum - n)
      (sym spent_there) ∙ ap (λ (x : State). x.limits.quantum - used_there x p) held.state in
      record {
        runs = ap (λ (x : State). thread_on x.records p) (sym held.state) ∙ runs;
        script = ap (λ (x : State). option_map (λ (t : Thread). t.script) (thread_at x.threads work.thread))
            (sym held.state) ∙ script;
        there = rw (← number) here.script;
        legal = legal;
        fits = rw (← number) here.fits;
        means = rw (← number) here.means;
        budget = left;
        some_left = (omega (arith, budget, below), omega (arith, budget, most));
      }

  -- the thread that runs wasn't removed
  pub runner-scripted : IsWithinBounds program.limits → (history : List ℕ) → w ≡ system_run program history → (t : ℕ)
      → thread_on s.records p ≡ Some t
      → (script : ℕ) × (option_map (λ (d : Thread). d.script) (thread_at s.threads t) ≡ Some script)
  runner-scripted bounds history run t runs =
      let order : IsInOrder s =
      subst IsInOrder (sym (held.state ∙ ap (λ (x : World). x.state) run)) (run-in-order program history bounds) in
      let found = found-runs s.records p t runs in
      let between = there-between s.records p t runs in
      let numbered : at_number s.threads t ≡ Some (get_or s.threads (t - 1) None) =
      number-some s.threads t None (omega (arith, between.0), omega (arith, between.1, held.kept.records)) in
      by order found (get_or s.threads (t - 1) None) numbered
    where
      by : IsInOrder s → ((used : ℕ) × (status_of s.records t ≡ Some (Running p used))) → (o : Option Thread)
          → at_number s.threads t ≡ Some o
          → (script : ℕ) × (option_map (λ (d : Thread). d.script) (thread_at s.threads t) ≡ Some script)
      by order found (Some thread) is =
          (thread.script, ap (λ o. option_map (λ (d : Thread). d.script) (option_flatten o)) is)
      by order found None is = let never : Some Dead ≡ Some (Running p found.0) = sym (order.removed t is) ∙ found.1 in
          cc

-- ---- a processor's turn

module _ (program : Program) (w : World) (s : State) (p : ℕ) (state : s ≡ w.state) where
  there-is : (t : ℕ) → thread_on w.state.records p ≡ Some t → thread_there s p ≡ t
  there-is t runs = rw (state, runs) refl

  -- whom the reply names
  pub given-names : (drawn : ℕ) (work : Option Work) (given : Option Parts) → IsWorkIn program w p work
      → Matches program work given
      → (t : ℕ) × OfGiven (length s.records) t given (step s (event_given p drawn given)).reply
  given-names drawn None None is matches = (0, draw-names s p drawn)
  given-names drawn None (Some given) is matches = absurd matches
  given-names drawn (Some work) None is matches = absurd matches
  given-names drawn (Some work) (Some given) is matches =
      let named = slice-names s p drawn given given.trap refl in
      let between = there-between w.state.records p work.thread is.1.runs in
      (work.thread, (rw state between, subst (λ t. OfRun t (step s (event_given p drawn (Some given))).reply) (there-is work.thread is.1.runs) named))

module _ (program : Program) (w : World) (p : ℕ) (threads : List (Option Thread)) (places : List Place)
    (at : AreAt program threads places w.contexts) where
  -- the thread's place, if it is elsewhere then
  moved : (t : ℕ) (place : Place) (context : Context)
      → IfSome (get_or threads (t - 1) None) (λ x. IsAt program x place context)
      → AreAt program threads (set_number places t place) (set_number w.contexts t context)
  moved t place context now = at-set program threads places w.contexts (t - 1) place context at now

  draw-follows : (r : Reply) → OfDraw (length threads) r
      → AreAt program threads (places_after places None r) (contexts_after w p r)
  draw-follows (reply.Winner t number total delivered) of =
      let start : Context = record { rest = []; accumulator = 0 } in
      let there : IfSome (get_or threads (t - 1) None) (λ x. IsAt program x (place_of places t) (context_of w t)) =
      rw (number-or places t first_place of.0, number-or w.contexts t start of.0)
      (at-place program threads places w.contexts (t - 1) first_place start at (omega (arith, of.0, of.1))) in
      moved t (delivered_to_place delivered (place_of places t)) (delivered_to delivered (context_of w t))
      (if-delivered_to program (get_or threads (t - 1) None) (place_of places t) (context_of w t) delivered there)
  draw-follows reply.Idle of = at
  draw-follows (reply.Refused why) of = at
  draw-follows (reply.Ticket n) of = absurd of
  draw-follows (reply.Currency n) of = absurd of
  draw-follows (reply.Thread n) of = absurd of
  draw-follows (reply.Funded ticket n) of = absurd of
  draw-follows reply.Done of = absurd of
  draw-follows (reply.Killed n) of = absurd of
  draw-follows (reply.List kind) of = absurd of
  draw-follows (reply.Expired t ticks) of = absurd of
  draw-follows (reply.Trapped t ticks outcome ends) of = absurd of

  module _ (work : Work) (given : Parts) (is : IsWork program w p work) (of : IsSliceOf program work given)
      (exact : IsSlice given) (same : threads ≡ w.state.threads)
      (between : IsBetween 1 (length threads) work.thread) where
    -- the slice's end is a place of the thread's script
    end-at : IfSome (get_or threads (work.thread - 1) None)
        (λ x. IsAt program x given.end (slice_on w p work.thread).end)
    end-at = by (get_or threads (work.thread - 1) None) (number-some threads work.thread None between)
      where
        by : (o : Option Thread) → at_number threads work.thread ≡ Some o
            → IfSome o (λ x. IsAt program x given.end (slice_on w p work.thread).end)
        by None numbered = tt
        by (Some thread) numbered =
            let script : Some thread.script ≡ Some work.script =
            ap (λ o. option_map (λ (t : Thread). t.script) (option_flatten o)) (sym numbered)
            ∙ ap (λ (ts : List (Option Thread)). option_map (λ (t : Thread). t.script) (thread_at ts work.thread)) same
            ∙ is.script in
            let number : thread.script ≡ work.script = cc in
            let lines : given.lines ≡ script_lines program thread.script = of.lines
            ∙ ap (script_lines program) (sym number) in
            record {
              script = rw number is.there;
              fits = rw (← lines) exact.end_fits;
              means = rw (slice-done program w p work given is of exact, ← lines) refl;
            }

    slice-follows : (r : Reply) → OfRun work.thread r
        → AreAt program threads (places_after places (Some given) r) (contexts_after w p r)
    slice-follows (reply.Expired t ticks) names =
        rw names (moved work.thread given.end (slice_on w p work.thread).end end-at)
    slice-follows (reply.Trapped t ticks outcome ends) names =
        rw names (moved work.thread (delivered_to_place (number_delivered outcome) given.end)
        (delivered_to (number_delivered outcome) (slice_on w p work.thread).end)
        (if-delivered_to program (get_or threads (work.thread - 1) None) given.end (slice_on w p work.thread).end
        (number_delivered outcome) end-at))
    slice-follows (reply.Refused why) names = at
    slice-follows (reply.Winner t number total delivered) names = absurd names
    slice-follows reply.Idle names = absurd names
    slice-follows (reply.Ticket n) names = absurd names
    slice-follows (reply.Currency n) names = absurd names
    slice-follows (reply.Thread n) names = absurd names
    slice-follows (reply.Funded ticket n) names = absurd names
    slice-follows reply.Done names = absurd names
    slice-follows (reply.Killed n) names = absurd names
    slice-follows (reply.List kind) names = absurd names

module _ (program : Program) (w : World) (s : State) (places : List Place) (seeds tickets : List ℕ) (spent : ℕ)
    (held : IsHeld program w s places seeds tickets spent) (p : ℕ) (some : 0 < p)
    (few : p ≤ program.limits.processors) where
  module _ (drawn : ℕ) (work : Option Work) (given : Option Parts) (is : IsWorkIn program w p work)
      (matches : Matches program work given) (exact : IfSome given IsSlice)
      (number : drawn ≡ number_from (is_some program.duration) (unwrap_or (at_number seeds p) 0)) where
    module _ (e : Event) (event_is : e ≡ event_given p drawn given) (after : State) (r : Reply)
        (state : after ≡ (step s e).state) (replied : r ≡ (step s e).reply) where
      its-event : processor_event w p ≡ e
      its-event =
          event-is program w p drawn work given some is matches exact (number
          ∙ ap (λ (ns : List ℕ). number_from (is_some program.duration) (unwrap_or (at_number ns p) 0)) held.seeds
          ∙ ap (λ wide. number_from wide (generator_of w p)) (sym held.wide)) ∙ sym event_is

      its-turn : system_turn program w p ≡ processor_turn w p e
      its-turn = system_turn-processor program w p some few ∙ ap (processor_turn w p) its-event

      pub turn-answer : (system_turn program w p).answer ≡ Answered e r
      turn-answer = rw (its-turn, replied, held.state) refl

      -- whom the reply names
      pub turn-names : (t : ℕ) × OfGiven (length places) t given r
      turn-names =
          let names = given-names program w s p held.state drawn work given is matches in
          let count : length s.records ≡ length places = held.kept.records
          ∙ sym (at-lengths program s.threads places w.contexts held.places_at).0 in
          (names.0, rw (replied, event_is, ← count) names.1)

      same-threads : KeepsThreads s after
      same-threads = rw (state, event_is) (given-same s p drawn given)

      turn-places : AreAt program s.threads (places_after places given r) (contexts_after w p r)
      turn-places = from work given is matches exact (subst (λ (x : Event). r ≡ (step s x).reply) event_is replied)
        where
          from : (wk : Option Work) (g : Option Parts) → IsWorkIn program w p wk → Matches program wk g
              → IfSome g IsSlice → r ≡ (step s (event_given p drawn g)).reply
              → AreAt program s.threads (places_after places g r) (contexts_after w p r)
          from None None a b c told =
              draw-follows program w p s.threads places held.places_at r (rw told
              (subst (λ n. OfDraw n (step s (event.Draw p drawn)).reply) held.kept.records (draw-names s p drawn)))
          from None (Some g) a b c told = absurd b
          from (Some wk) None a b c told = absurd b
          from (Some wk) (Some g) a b c told =
              let between = there-between w.state.records p wk.thread a.1.runs in
              let count : length w.state.records ≡ length s.threads =
              ap (λ (x : State). length x.records) (sym held.state) ∙ held.kept.records in
              let named = slice-names s p drawn g g.trap refl in
              slice-follows program w p s.threads places held.places_at wk g a.1 b c
              (ap (λ (x : State). x.threads) held.state) (rw (← count) between) r
              (rw told (subst (λ t. OfRun t (step s (event_given p drawn (Some g))).reply)
              (there-is program w s p held.state wk.thread a.1.runs) named))

      pub turn-held : (now : List Place) (passed : List ℕ) → now ≡ places_after places given r
          → passed ≡ (if takes_number e
          then set_number seeds p (seed_from (is_some program.duration) (unwrap_or (at_number seeds p) 0)) else seeds)
          → IsHeld program (system_turn program w p).world after now passed tickets spent
      turn-held now passed at numbers =
          let replies : r ≡ (step w.state e).reply = replied ∙ ap (λ (x : State). (step x e).reply) held.state in
          let places_now : AreAt program after.threads now (contexts_after w p r) =
          rw (at, same-threads.threads) turn-places in
          rw its-turn (record {
            state = state ∙ ap (λ (x : State). (step x e).state) held.state;
            kept = kept-in program s after None held.kept
                (record { threads = inl same-threads.threads; records = same-threads.records; limits = same-threads.limits });
            places_at =
                subst (λ (x : Reply). AreAt program after.threads now (contexts_after w p x)) replies places_now;
            seeds = numbers ∙ ap (λ (ns : List ℕ). if takes_number e then set_number ns p
                (seed_from (is_some program.duration) (unwrap_or (at_number ns p) 0)) else ns) held.seeds
                ∙ ap (λ wide. if takes_number e then set_number w.generators p
                (seed_from wide (generator_of w p)) else w.generators) (sym held.wide);
            wide = held.wide;
            commands = held.commands;
            names = held.names;
            tickets_are = held.tickets_are;
          })

-- ---- histories

count-more : (history : List ℕ) (actor : ℕ) → count_by (λ a. a == 0)
    (history ++ actor ∷ []) ≡ count_by (λ a. a == 0) history + count_by (λ a. a == 0) (actor ∷ [])
count-more history actor =
    let one : (if◌then◌else◌ {A = ℕ} (actor == 0) 1 0) ≡ 0 + (if actor == 0 then 1 else 0) = omega arith in
    sum_by_push (λ a. if a == 0 then 1 else 0) history actor ∙ ap (λ n. count_by (λ a. a == 0) history + n) one

pub count-console : (history : List ℕ) → count_by (λ a. a == 0) (history ++ 0 ∷ []) ≡ count_by (λ a. a == 0) history + 1
count-console history = count-more history 0

pub count-processor : (history : List ℕ) (p : ℕ) → 0 < p
    → count_by (λ a. a == 0) (history ++ p ∷ []) ≡ count_by (λ a. a == 0) history
count-processor history p some =
    let no : (p == 0) ≡ false = ne_eqb p 0 (λ e. omega arith) in
    let none : count_by (λ a. a == 0) (p ∷ []) ≡ 0 = rw no refl in
    omega (arith, count-more history p, none)

pub in_time-more : (program : Program) (room : ℕ) (history : List ℕ) (actor : ℕ) → length history < room
    → count_by (λ a. a == 0) (history ++ actor ∷ []) ≤ length program.commands
    → IsLegalInTime program room (history ++ actor ∷ [])
in_time-more program room history actor below left =
    let longer = length-append history (actor ∷ []) in
    record { within_room = omega (arith, longer, below); console = left }

pub legal-more : (program : Program) (room : ℕ) (history : List ℕ) (actor : ℕ) → IsLegal program room history
    → actor ≤ program.limits.processors → length history < room
    → count_by (λ a. a == 0) (history ++ actor ∷ []) ≤ length program.commands
    → IsLegal program room (history ++ actor ∷ [])
legal-more program room history actor legal there below left =
    let longer = length-append history (actor ∷ []) in
    record { actors = All-push (λ a. a ≤ program.limits.processors) history actor legal.actors there; within_room = omega (arith, longer, below); console = left }
