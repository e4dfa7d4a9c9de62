-- A turn writes few lines of lots and loans, compensates only for less than a quantum, and leaves names short.
use Rattle.lot_explain.proofs.Common.{All, All-head, All-nil, All-push, All-set, All-tail, BadAmount, BadName, BadProcessor, BadTicks, Bool, Busy, Command, Event, Full, HasShortName, HasSizesOf, IsInOrder, IsWithinBounds, LineStyle, List, MakeFunded, MakeThread, NameTaken, NoCurrency, NoScript, None, NotRunning, Option, Program, Refusal, RemoveThread, ScriptTrap, Sizes, Slice, Some, State, Thread, Won, World, actor_event, all-pass, ap, are_threads_full, are_tickets_full, arith, command-grown, command_effect, command_refusal, command_step, cond, console_turn, currency_meant, entrants_in, event_effect, event_of_slice, event_refusal, false, free_threads, is_bad_amount, is_bad_processor, is_no_script, is_none, is_none_free, is_some, is_taken, is_thread_name, leb-false, length, length-append, length-set, loan_lines, loans_of, lot_diagnostics, lots_of, lots_text, ltb-false, mul-le-mul_right, nat_le, nat_lt, next_name, not, number_of, opening-order, opening_world, or_parts, other-sizes, placed, processor_event, processor_of, processor_turn, refl, resolved, slice_on, some-injective, step, step-order, step-sizes, subst, sym, system_turn, thread_meant, thread_on, true, unless_refused, unrefused, unwrap_or, used_there, won_in, won_lines, ℕ, [], ◌&&◌, ◌*◌, ◌+◌, ◌-◌, ◌==◌, ◌^◌, ◌||◌, ◌∙◌, ◌∷◌, ◌≡◌, ◌≤◌}
use Rattle.lot_machine.specs.declared.trap.Trap.TheVariants as action
use Rattle.lot_machine.specs.declared.event.Event.TheVariants as event
use Rattle.lot_machine.specs.declared.reply.Reply.TheVariants as reply
use Rattle.lot_explain.proofs.Lengths.{HasShortTime, both-short, line_most, lines-short, loans-short}
use Rattle.lot_explain.proofs.PartQuanta.{AreParts, IsOnTime, IsPart, command-parts, step-parts}
use Rattle.lot_explain.proofs.ShortLots.{IsShortThread, IsShortPlace, HasShortNames, among-short}

-- What each world keeps: its state is in order, its limits are the program's, no more threads were made than may be, those that are
-- compensated used less than a quantum, and their names are short, as are those in the commands that are left.
pub record IsShort (sizes : Sizes) (w : World) : Type 0 where
  pub order : IsInOrder w.state
  pub limits : w.state.limits ≡ sizes
  pub records : length w.state.records ≡ length w.state.threads
  pub room : length w.state.threads ≤ sizes.threads
  pub names : All IsShortPlace w.state.threads
  pub parts : AreParts sizes.quantum w.state.records
  pub commands : All HasShortName w.commands

-- ---- an event of a processor

-- a processor that isn't bad is one of those that there are
good-processor : (s : State) (p : ℕ) → is_bad_processor s p ≡ false → p ≤ s.limits.processors
good-processor s p good = ltb-false s.limits.processors p (or_parts (p == 0) (nat_lt s.limits.processors p) good).1

-- so is an event's that isn't refused
processor-few : (s : State) (e : Event) (p : ℕ) → processor_of e ≡ Some p → event_refusal s e ≡ None
    → p ≤ s.limits.processors
processor-few s (event.Command command) p on passes = cc
processor-few s (event.Draw q d) p on passes =
    let checks =
    all-pass ((is_bad_processor s q, BadProcessor) ∷ (is_some (thread_on s.records q), Busy) ∷ []) passes in
    subst (λ n. n ≤ s.limits.processors) (some-injective q p on) (good-processor s q checks.0)
processor-few s (event.Expire q) p on passes =
    let checks =
    all-pass ((is_bad_processor s q, BadProcessor) ∷ (is_none (thread_on s.records q), NotRunning) ∷ []) passes in
    subst (λ n. n ≤ s.limits.processors) (some-injective q p on) (good-processor s q checks.0)
processor-few s (event.Preempt q ticks) p on passes =
    let checks = all-pass ((is_bad_processor s q, BadProcessor) ∷ (is_none (thread_on s.records q), NotRunning)
    ∷ (nat_lt s.limits.quantum (used_there s q + ticks), BadTicks) ∷ []) passes in
    subst (λ n. n ≤ s.limits.processors) (some-injective q p on) (good-processor s q checks.0)
processor-few s (event.Overrun q late) p on passes =
    let checks = all-pass ((is_bad_processor s q, BadProcessor) ∷ (is_none (thread_on s.records q), NotRunning)
    ∷ (nat_le (2 ^ 32) (s.limits.quantum + late), BadTicks) ∷ []) passes in
    subst (λ n. n ≤ s.limits.processors) (some-injective q p on) (good-processor s q checks.0)
processor-few s (event.Wake t) p on passes = cc
processor-few s (event.Trap q ran a) p on passes =
    let checks = all-pass ((is_bad_processor s q, BadProcessor) ∷ (is_none (thread_on s.records q), NotRunning)
    ∷ (nat_lt s.limits.quantum (used_there s q + ran + 1), BadTicks) ∷ []) passes in
    subst (λ n. n ≤ s.limits.processors) (some-injective q p on) (good-processor s q checks.0)

-- nobody has won where an event is refused
none-won : (e : Event) (refusal : Refusal) → won_in e (reply.Refused refusal) ≡ None
none-won (event.Command command) refusal = refl
none-won (event.Draw p d) refusal = refl
none-won (event.Expire p) refusal = refl
none-won (event.Preempt p ticks) refusal = refl
none-won (event.Overrun p late) refusal = refl
none-won (event.Wake t) refusal = refl
none-won (event.Trap p ran action.Yield) refusal = refl
none-won (event.Trap p ran other) refusal = refl

module _ (style : LineStyle) (timely : HasShortTime style) (s : State) (short : HasShortNames s) where
  -- the lines of lots are no more than there may be threads, if somebody has won
  won-short : (actor : ℕ) → actor ≤ 64 → (e : Event) (won : Option Won) → length
      (won_lines style s.limits.unit actor (lots_of s e) (loans_of s e) won) ≤ s.limits.threads * line_most style
  won-short actor few e None = omega arith
  won-short actor few e (Some won) =
      let entries = among-short s short (entrants_in e) in
      let unit = s.limits.unit in
      let lots = lines-short style unit actor timely short.order.bounds.of_unit few won 0 (lots_of s e) entries.each
      (omega (arith, entries.total)) in
      let loans = loans-short style unit actor timely short.order.bounds.of_unit few (loans_of s e) entries.each_loan in
      let lines = both-short style (lot_diagnostics style unit actor won 0 (lots_of s e))
      (loan_lines style unit actor (loans_of s e)) (length (lots_of s e)) (length (loans_of s e)) lots loans in
      omega (arith, lines, mul-le-mul_right (line_most style) entries.few)

  -- so are those of a lottery that an event holds: if it isn't refused, its processor is there
  event-short : (actor shown : ℕ) (e : Event) → processor_of e ≡ Some actor → shown ≤ actor
      → length (won_lines style s.limits.unit shown (lots_of s e) (loans_of s e) (won_in e (step s e).reply))
      ≤ s.limits.threads * line_most style
  event-short actor shown e on low = at (event_refusal s e) refl
    where
      at : (o : Option Refusal) → event_refusal s e ≡ o → length (won_lines style s.limits.unit shown (lots_of s e)
          (loans_of s e) (won_in e (unless_refused s o (event_effect s e)).reply)) ≤ s.limits.threads * line_most style
      at None passes =
          won-short shown (omega (arith, low, processor-few s e actor on passes, short.order.bounds.of_processors.1)) e
          (won_in e (event_effect s e).reply)
      at (Some refusal) fails = rw (none-won e refusal) (omega arith)

-- ---- a command

-- no more threads than there may be, with short names
abbrev HasRoom : State → State → Type 0
HasRoom s after = All IsShortPlace after.threads × (length after.threads ≤ s.limits.threads)

-- one thread more, at the end or in a free place
thread-more : (s : State) (thread : Thread) → IsShortThread thread → are_threads_full s ≡ false
    → All IsShortPlace s.threads → length s.threads ≤ s.limits.threads
    → All IsShortPlace (placed s.threads (free_threads s) (Some thread))
    × (length (placed s.threads (free_threads s) (Some thread)) ≤ s.limits.threads)
thread-more s thread short left names room = at (free_threads s) left
  where
    at : (free : List ℕ) → (is_none_free free && nat_le s.limits.threads (length s.threads)) ≡ false
        → All IsShortPlace (placed s.threads free (Some thread))
        × (length (placed s.threads free (Some thread)) ≤ s.limits.threads)
    at [] none = (All-push IsShortPlace s.threads (Some thread) names short, omega (arith, length-append s.threads (Some thread ∷ []), leb-false s.limits.threads (length s.threads) none))
    at (place ∷ free) some =
        (All-set IsShortPlace s.threads place (Some thread) short names, omega (arith, length-set s.threads place (Some thread), room))

-- a command makes a thread only if there is room for it, and one that is removed leaves its place
command-threads : (s : State) (c : Command) → HasShortName c → All IsShortPlace s.threads
    → length s.threads ≤ s.limits.threads → HasRoom s (command_step s c).state
command-threads s (MakeThread name script) short names room =
    let c = MakeThread name script in
    unrefused (HasRoom s) s (command_refusal s c) (command_effect s c) (names, room) (λ passes.
    let checks = all-pass ((not (is_thread_name s.limits name), BadName) ∷ (is_taken s name, NameTaken)
    ∷ (is_no_script s script, NoScript) ∷ (are_threads_full s, Full) ∷ []) passes in
    thread-more s (record { name = name; script = script }) short checks.1.1.1.0 names room)
command-threads s (RemoveThread thread) short names room =
    let c = RemoveThread thread in
    let place = unwrap_or (thread_meant s thread) 0 - 1 in
    unrefused (HasRoom s) s (command_refusal s c) (command_effect s c) (names, room) (λ _.
    (All-set IsShortPlace s.threads place None tt names, omega (arith, length-set s.threads place None, room)))
command-threads s (MakeFunded amount currency name script) short names room =
    let c = MakeFunded amount currency name script in
    unrefused (HasRoom s) s (command_refusal s c) (command_effect s c) (names, room) (λ passes.
    let checks = all-pass ((is_bad_amount amount, BadAmount) ∷ (is_none (currency_meant s currency), NoCurrency)
    ∷ (not (is_thread_name s.limits name), BadName)
    ∷ (is_taken s name, NameTaken) ∷ (is_no_script s script, NoScript)
    ∷ (are_tickets_full s || are_threads_full s, Full) ∷ []) passes in
    thread-more s (record { name = name; script = script }) short
    (or_parts (are_tickets_full s) (are_threads_full s) checks.1.1.1.1.1.0).1 names room)
command-threads s c short names room =
    unrefused (HasRoom s) s (command_refusal s c) (command_effect s c) (names, room) (λ _. (names, room))

-- ---- a turn

-- a slice is its processor's
slice-on : (p d : ℕ) (s : Slice) → processor_of (event_of_slice p d s) ≡ Some p
slice-on p d s = at s.trap refl
  where
    at : (o : Option ScriptTrap) → s.trap ≡ o → processor_of (event_of_slice p d s) ≡ Some p
    at None is = rw is refl
    at (Some trap) is = rw is refl

-- and so is what a processor does next
event-on : (w : World) (p : ℕ) → processor_of (processor_event w p) ≡ Some p
event-on w p = at (thread_on w.state.records p) refl
  where
    at : (o : Option ℕ) → thread_on w.state.records p ≡ o → processor_of (processor_event w p) ≡ Some p
    at None is = rw is refl
    at (Some t) is = rw is (slice-on p (number_of w p) (slice_on w p t))

-- what a processor or the timer does next ends no quantum late
slice-on_time : (p d : ℕ) (s : Slice) → IsOnTime (event_of_slice p d s)
slice-on_time p d s = at s.trap refl
  where
    at : (o : Option ScriptTrap) → s.trap ≡ o → IsOnTime (event_of_slice p d s)
    at None is = rw is tt
    at (Some trap) is = rw is tt

event-on_time : (w : World) (p : ℕ) → IsOnTime (processor_event w p)
event-on_time w p = at (thread_on w.state.records p) refl
  where
    at : (o : Option ℕ) → thread_on w.state.records p ≡ o → IsOnTime (processor_event w p)
    at None is = rw is tt
    at (Some t) is = rw is (slice-on_time p (number_of w p) (slice_on w p t))

pub actor-on_time : (program : Program) (w : World) (actor : ℕ) → IsOnTime (actor_event program w actor)
actor-on_time program w actor = at (nat_le actor program.limits.processors)
  where
    at : (b : Bool) → IsOnTime (cond b (processor_event w actor) (event.Wake (actor - program.limits.processors)))
    at true = event-on_time w actor
    at false = tt

-- so the world's state has short names
short-names : (limits : Sizes) (w : World) → IsShort limits w → HasShortNames w.state
short-names limits w short = record {
  order = short.order;
  room = omega (arith, short.records, short.room, ap (λ (l : Sizes). l.threads) short.limits);
  names = short.names;
  parts = subst (λ (l : Sizes). AreParts l.quantum w.state.records) (sym short.limits) short.parts;
}

-- a turn of a processor or of the timer keeps them
processor-keeps : (limits : Sizes) (w : World) (p : ℕ) (e : Event) → IsOnTime e
    → HasSizesOf w.state (step w.state e).state → IsShort limits w → IsShort limits (processor_turn w p e).world
processor-keeps limits w p e on_time sizes short =
    let count = ap (length {A = Option Thread}) sizes.2 in
    record {
      order = step-order w.state e short.order;
      limits = sizes.0 ∙ short.limits;
      records = omega (arith, sizes.1, count, short.records);
      room = omega (arith, count, short.room);
      names = subst (All IsShortPlace) (sym sizes.2) short.names;
      parts = subst (λ (l : Sizes). AreParts l.quantum (step w.state e).state.records) short.limits
          (step-parts w.state e on_time (short-names limits w short).parts);
      commands = short.commands;
    }

-- a command for a ticket that it names is one with as short a name
resolved-short : (tickets : List ℕ) (name : Option ℕ) (c : Command) → HasShortName c
    → HasShortName (resolved tickets name c)
resolved-short tickets None c short = short
resolved-short tickets (Some name) (MakeThread thread script) short = short
resolved-short tickets (Some name) (MakeFunded amount currency thread script) short = short
resolved-short tickets (Some name) c short = tt

-- and one of the console
console-keeps : (program : Program) (w : World) (commands : List Command) → All HasShortName commands
    → IsShort program.limits w → IsShort program.limits (console_turn program w commands).world
console-keeps program w [] left short = short
console-keeps program w (next ∷ cs) left short =
    let c : Command = resolved w.tickets (next_name w) next in
    let grown = command-grown w.state c in
    let same = ap (λ (l : Sizes). l.threads) short.limits in
    let made = command-threads w.state c (resolved-short w.tickets (next_name w) next
    (All-head HasShortName next cs left)) short.names (omega (arith, short.room, same)) in
    record {
      order = step-order w.state (event.Command c) short.order;
      limits = grown.0 ∙ short.limits;
      records = omega (arith, grown.1.1, grown.1.2, short.records);
      room = omega (arith, made.1, same);
      names = made.0;
      parts = command-parts program.limits.quantum w.state c short.parts;
      commands = All-tail HasShortName next cs left;
    }

-- and any turn
pub turn-keeps : (program : Program) (w : World) (actor : ℕ) → IsShort program.limits w
    → IsShort program.limits (system_turn program w actor).world
turn-keeps program w actor short = at (actor == 0)
  where
    makes : (b : Bool) → HasSizesOf w.state
        (step w.state (cond b (processor_event w actor) (event.Wake (actor - program.limits.processors)))).state
    makes true = step-sizes w.state (processor_event w actor) actor (event-on w actor)
    makes false = other-sizes w.state (event.Wake (actor - program.limits.processors)) (λ same. cc)

    at : (b : Bool) → IsShort program.limits
        (cond b (console_turn program w w.commands) (processor_turn w actor (actor_event program w actor))).world
    at true = console-keeps program w w.commands short.commands short
    at false = processor-keeps program.limits w actor (actor_event program w actor) (actor-on_time program w actor)
        (makes (nat_le actor program.limits.processors)) short

-- the console holds no lottery
console-short : (program : Program) (w : World) (commands : List Command) (style : LineStyle) (actor : ℕ)
    → length (lots_text style actor w.state (console_turn program w commands).answer) ≤ 0
console-short program w [] style actor = omega arith
console-short program w (c ∷ cs) style actor = omega arith

-- the lines of the lots of a turn's lottery are no more than there may be threads
pub turn-short : (style : LineStyle) (program : Program) (w : World) (actor shown : ℕ) → shown ≤ actor
    → HasShortTime style → IsShort program.limits w
    → length (lots_text style shown w.state (system_turn program w actor).answer)
    ≤ program.limits.threads * line_most style
turn-short style program w actor shown low timely short = at (actor == 0) (nat_le actor program.limits.processors)
  where
    at : (b c : Bool)
        → length (lots_text style shown w.state (cond b (console_turn program w w.commands) (processor_turn w actor
        (cond c (processor_event w actor) (event.Wake (actor - program.limits.processors))))).answer)
        ≤ program.limits.threads * line_most style
    at true c = omega (arith, console-short program w w.commands style shown)
    at false false = omega arith
    at false true =
        subst (λ n. length (lots_text style shown w.state (processor_turn w actor (processor_event w actor)).answer)
        ≤ n * line_most style) (ap (λ (l : Sizes). l.threads) short.limits)
        (event-short style timely w.state (short-names program.limits w short) actor shown (processor_event w actor)
        (event-on w actor) low)

-- at the start there are no threads
pub opening-short : (program : Program) → IsWithinBounds program.limits → All HasShortName program.commands
    → IsShort program.limits (opening_world program)
opening-short program bounds commands = record {
  order = opening-order program.limits bounds;
  limits = refl;
  records = refl;
  room = omega arith;
  names = All-nil IsShortPlace;
  parts = All-nil (IsPart program.limits.quantum);
  commands = commands;
}
