-- The slice of the thread on a processor is never refused, and leaves the thread at its end.
use Rattle.lot_engine.proofs.Common.{Action, Answered, Bool, Context, Done, Event, IfSome, IsAt, IsBetween, IsHeld, IsSlice, IsSliceOf, IsWork, IsWorkIn, List, None, OfRun, Option, Parts, Place, Program, Refusal, Reply, Running, ScriptLine, ScriptTrap, Sizes, Slice, Some, State, Step, Thread, Work, World, action_of, ap, arith, at_number, context_at, context_of, did, event_done, event_effect, event_given, event_refusal, false, first_place, get_or, if◌then◌else◌, is_mark, is_some, le-ltb, length, length-set, ltb-true, min, nat_lt, ne_eqb, number_delivered, number_from, option_and_then, option_map, place_of, places_after, places_received, prefix_len, refl, script_lines, seed_from, set_number, sleeper_by, sleeper_on, slice, slice_between, slice_on, step, subst, sym, system_turn, takes_number, thread_at, thread_there, true, unless_refused, unwrap_or, used_there, work_at, ℕ, [], ◌+◌, ◌-◌, ◌<◌, ◌==◌, ◌∙◌, ◌≡◌}
use Rattle.lot_machine.specs.declared.event.Event.TheVariants as event
use Rattle.lot_machine.specs.declared.reply.Reply.TheVariants as reply
use Rattle.lot_engine.proofs.PlaceFacts.{number-or, scripted, at-lengths, at-number, delivered-set}
use Rattle.lot_engine.proofs.TurnFacts.{slice-done, there-between, turn-answer, turn-held}

-- ---- what a slice did as an event

pub done-event : (p drawn : ℕ) (given : Option Parts)
    → event_done p drawn (option_map did given) ≡ event_given p drawn given
done-event p drawn None = refl
done-event p drawn (Some given) = at given.trap refl
  where
    at : (trap : Option ScriptTrap) → given.trap ≡ trap
        → event_done p drawn (Some (did given)) ≡ event_given p drawn (Some given)
    at None is = rw is refl
    at (Some trap) is = rw is refl

pub given-event : (p drawn : ℕ) (e : Event) (given : Option Parts) (passed : Option Done)
    → passed ≡ option_map did given → e ≡ event_done p drawn passed → e ≡ event_given p drawn given
given-event p drawn e given passed is event_is = event_is ∙ ap (event_done p drawn) is ∙ done-event p drawn given

-- ---- replies

-- the reply to an expiry or a trap that isn't refused names this thread
abbrev pub Runs : ℕ → Reply → Type 0
Runs t (reply.Expired u ticks) = u ≡ t
Runs t (reply.Trapped u ticks outcome ends) = u ≡ t
Runs t other = ⊥

pub runs-names : (t : ℕ) (r : Reply) → Runs t r → OfRun t r
runs-names t (reply.Expired u ticks) runs = runs
runs-names t (reply.Trapped u ticks outcome ends) runs = runs
runs-names t (reply.Refused why) runs = absurd runs
runs-names t (reply.Winner u number total delivered) runs = absurd runs
runs-names t reply.Idle runs = absurd runs
runs-names t (reply.Ticket n) runs = absurd runs
runs-names t (reply.Currency n) runs = absurd runs
runs-names t (reply.Thread n) runs = absurd runs
runs-names t (reply.Funded ticket n) runs = absurd runs
runs-names t reply.Done runs = absurd runs
runs-names t (reply.Killed n) runs = absurd runs
runs-names t (reply.List kind) runs = absurd runs

-- a slice that ends with a trap leaves a tick of its budget for it
slice-within : (c : Context) (budget ticks : ℕ) (trap : ScriptTrap) (end : Context)
    → slice c budget ≡ record { ticks = ticks; trap = Some trap; end = end } → ticks < budget
slice-within c budget ticks trap end is = at (nat_lt (min budget (prefix_len is_mark c.rest)) budget) refl
  where
    at : (b : Bool) → nat_lt (min budget (prefix_len is_mark c.rest)) budget ≡ b → ticks < budget
    at true below = let told = rw below at is in let same : min budget (prefix_len is_mark c.rest) ≡ ticks =
        ap (λ (s : Slice). s.ticks) told in
        omega (arith, ltb-true (min budget (prefix_len is_mark c.rest)) budget below, same)
    at false above = let told = rw above at is in let none : None ≡ Some trap = ap (λ (s : Slice). s.trap) told in cc

passes : (s : State) (t : ℕ) (o : Option Refusal) (next : Step) → o ≡ None → Runs t next.reply
    → Runs t (unless_refused s o next).reply
passes s t o next none runs = rw none runs

module _ (program : Program) (w : World) (p : ℕ) (between : IsBetween 1 w.state.limits.processors p) (work : Work)
    (given : Parts) (is : IsWork program w p work) (of : IsSliceOf program work given) (exact : IsSlice given) where
  not-none : (p == 0) ≡ false
  not-none = ne_eqb p 0 (λ e. omega (arith, between.0))

  not-more : nat_lt w.state.limits.processors p ≡ false
  not-more = le-ltb w.state.limits.processors p between.1

  there : thread_there w.state p ≡ work.thread
  there = rw is.runs refl

  expiry-runs : Runs work.thread (step w.state (event.Expire p)).reply
  expiry-runs =
      let good : event_refusal w.state (event.Expire p) ≡ None = rw (not-none, not-more, is.runs) refl in
      passes w.state work.thread (event_refusal w.state (event.Expire p))
      (event_effect w.state (event.Expire p)) good there

  trap-runs : (trap : ScriptTrap) → given.trap ≡ Some trap → (action : Action)
      → Runs work.thread (step w.state (event.Trap p given.ticks action)).reply
  trap-runs trap ends action =
      let sliced : slice (context_at given.lines given.start) given.budget
      ≡ record { ticks = given.ticks; trap = Some trap; end = context_at given.lines given.end } =
      exact.sliced ∙ ap (λ t. record { ticks = given.ticks; trap = t; end = context_at given.lines given.end }) ends in
      let below = slice-within (context_at given.lines given.start) given.budget given.ticks trap
      (context_at given.lines given.end) sliced in
      let fits : nat_lt w.state.limits.quantum (used_there w.state p + given.ticks + 1) ≡ false =
      le-ltb w.state.limits.quantum (used_there w.state p + given.ticks + 1)
      (omega (arith, below, of.budget, is.budget)) in
      let good : event_refusal w.state (event.Trap p given.ticks action) ≡ None =
      rw (fits, not-none, not-more, is.runs) refl in
      passes w.state work.thread (event_refusal w.state (event.Trap p given.ticks action))
      (event_effect w.state (event.Trap p given.ticks action)) good there

  -- the slice of the thread's work is never refused
  pub given-runs : (drawn : ℕ) → Runs work.thread (step w.state (event_given p drawn (Some given))).reply
  given-runs drawn = at given.trap refl
    where
      at : (trap : Option ScriptTrap) → given.trap ≡ trap
          → Runs work.thread (step w.state (event_given p drawn (Some given))).reply
      at None ends = rw ends expiry-runs
      at (Some trap) ends = rw ends (trap-runs trap ends (action_of trap given.end.accumulator drawn))

-- ---- places

-- the thread that was moved to its slice's end, and has what it received, is where the turn leaves it
pub received-after : (places : List Place) (t : ℕ) (given : Parts) (r : Reply) → IsBetween 1 (length places) t
    → Runs t r → places_received (set_number places t given.end) r ≡ places_after places (Some given) r
received-after places t given (reply.Expired u ticks) within runs = rw runs refl
received-after places t given (reply.Trapped u ticks outcome ends) within runs =
    rw runs (delivered-set places t given.end (number_delivered outcome) within)
received-after places t given (reply.Refused why) within runs = absurd runs
received-after places t given (reply.Winner u number total delivered) within runs = absurd runs
received-after places t given reply.Idle within runs = absurd runs
received-after places t given (reply.Ticket n) within runs = absurd runs
received-after places t given (reply.Currency n) within runs = absurd runs
received-after places t given (reply.Thread n) within runs = absurd runs
received-after places t given (reply.Funded ticket n) within runs = absurd runs
received-after places t given reply.Done within runs = absurd runs
received-after places t given (reply.Killed n) within runs = absurd runs
received-after places t given (reply.List kind) within runs = absurd runs

-- ---- the thread that runs

-- the place that is kept of the thread on a processor is that of its work
module _ (program : Program) (w : World) (s : State) (places : List Place) (seeds tickets : List ℕ) (spent : ℕ)
    (held : IsHeld program w s places seeds tickets spent) (p : ℕ) (running : Running) (other : Place)
    (is : IsWork program w p (work_at running other)) where
  pub thread-kept : IsBetween 1 (length places) running.thread
  thread-kept =
      let between = there-between w.state.records p running.thread is.runs in
      let lengths = at-lengths program s.threads places w.contexts held.places_at in
      omega (arith, between, ap (λ (x : State). length x.records) held.state, held.kept.records, lengths.0)

  pub work-kept : IsWork program w p (work_at running (place_of places running.thread))
  work-kept =
      let start : Context = record { rest = []; accumulator = 0 } in
      let within = thread-kept in
      let lengths = at-lengths program s.threads places w.contexts held.places_at in
      let count : IsBetween 1 (length s.threads) running.thread = rw (← lengths.0) within in
      let its : option_map (λ (t : Thread). t.script) (thread_at s.threads running.thread) ≡ Some running.script =
      ap (λ (x : State). option_map (λ (t : Thread). t.script) (thread_at x.threads running.thread)) held.state
      ∙ is.script in
      let (thread, there, number) = scripted (thread_at s.threads running.thread) running.script its in
      let at : IsAt program thread (get_or places (running.thread - 1) first_place)
      (get_or w.contexts (running.thread - 1) start) =
      at-number program s.threads places w.contexts running.thread thread first_place start held.places_at count
      there in
      let here : IsAt program thread (place_of places running.thread) (context_of w running.thread) =
      rw
      (number-or places running.thread first_place within.0, number-or w.contexts running.thread start within.0) at in
      record {
        runs = is.runs;
        script = is.script;
        there = is.there;
        legal = is.legal;
        fits = rw (← number) here.fits;
        means = rw (← number) here.means;
        budget = is.budget;
        some_left = is.some_left;
      }

  -- the slice that moved the thread's place on, and the event and the reply that followed
  module _ (between : IsBetween 1 program.limits.processors p) (lines : List ScriptLine)
      (lines_are : lines ≡ script_lines program running.script) (done : Done) (now : List Place)
      (exact : IsSlice
      (slice_between lines (place_of places running.thread) running.budget done (place_of now running.thread)))
      (moved : now ≡ set_number places running.thread (place_of now running.thread))
      (sum : done.accumulator ≡ (place_of now running.thread).accumulator) (drawn : ℕ)
      (number : drawn ≡ number_from (is_some program.duration) (unwrap_or (at_number seeds p) 0))
      (e : Event) (event_is : e ≡ event_done p drawn (Some done)) (after : State) (r : Reply)
      (state : after ≡ (step s e).state) (replied : r ≡ (step s e).reply) where
    abbrev work : Work
    work = work_at running (place_of places running.thread)

    abbrev given : Parts
    given = slice_between lines (place_of places running.thread) running.budget done (place_of now running.thread)

    of : IsSliceOf program work given
    of = record { lines = lines_are; start = refl; budget = refl }

    its-event : e ≡ event_given p drawn (Some given)
    its-event = event_is ∙ ap (λ a. event_done p drawn
        (Some (record { ticks = done.ticks; trap = done.trap; accumulator = a }))) sum ∙ done-event p drawn (Some given)

    is-work : IsWorkIn program w p (Some work)
    is-work = (between.0, work-kept)

    is-exact : IfSome (Some given) IsSlice
    is-exact = exact

    pub run-answer : (system_turn program w p).answer ≡ Answered e r
    run-answer = turn-answer program w s places seeds tickets spent held p between.0 between.1 drawn (Some work)
        (Some given) is-work of is-exact number e its-event after r state replied

    -- who goes to sleep with it
    pub run-sleeper : sleeper_on w p ≡ sleeper_by running.thread done.trap
    run-sleeper =
        ap (option_and_then (λ t. sleeper_by t (slice_on w p t).trap)) is.runs
        ∙ ap (λ (x : Slice). sleeper_by running.thread x.trap) (slice-done program w p work given work-kept of exact)

    runs : Runs running.thread r
    runs =
        let there : IsBetween 1 w.state.limits.processors p =
        subst (λ (x : State). IsBetween 1 x.limits.processors p) held.state
        (subst (λ (l : Sizes). IsBetween 1 l.processors p) (sym held.kept.limits) between) in
        let replies : r ≡ (step w.state (event_given p drawn (Some given))).reply = replied
        ∙ ap (λ (x : Event). (step s x).reply) its-event
        ∙ ap (λ (x : State). (step x (event_given p drawn (Some given))).reply) held.state in
        subst (Runs running.thread) (sym replies) (given-runs program w p there work given work-kept of exact drawn)

    pub run-names : (t : ℕ) × (IsBetween 1 (length now) t × OfRun t r)
    run-names =
        let long : length now ≡ length places = ap length moved
        ∙ length-set places (running.thread - 1) (place_of now running.thread) in
        let within = thread-kept in
        (running.thread, ((omega (arith, within.0), omega (arith, within.1, long)), runs-names running.thread r runs))

    pub run-held : (end : List Place) (passed : List ℕ) → end ≡ places_received now r → passed ≡ (if takes_number e
        then set_number seeds p (seed_from (is_some program.duration) (unwrap_or (at_number seeds p) 0)) else seeds)
        → IsHeld program (system_turn program w p).world after end passed tickets spent
    run-held end passed received numbers =
        let follows : end ≡ places_after places (Some given) r = received ∙ ap (λ ps. places_received ps r) moved
        ∙ received-after places running.thread given r thread-kept runs in
        turn-held program w s places seeds tickets spent held p between.0 between.1 drawn (Some work)
        (Some given) is-work of is-exact number e its-event after r state replied end passed follows numbers
