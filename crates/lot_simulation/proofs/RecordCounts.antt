-- The quanta and the ticks of the threads' records add up to the counts of the turns that led to them.
use Rattle.lot_simulation.proofs.Common.{Action, ActorTurn, After, Answered, BadProcessor, BadTicks, Bool, By, Command, Console, Drawn, Ends, Event, GoesOn, IsBetween, IsInOrder, IsTallied, IsWithinBounds, Keeps, Kill, Kills, Leaves, List, NewThread, None, NotRunning, Option, Program, PutRecord, Record, Refusal, ScriptTrap, Sizes, Slice, Some, State, Status, Step, ThreadRef, TrapRefusal, TurnMade, Work, World, actor_event, after_trap, all-pass, ap, arith, at_number, at_number-suc, beside, change_record, checked-leads, checked-sizes, checked_effect, command-leads, command_step, cond, console_turn, count_in, draw, event_effect, event_of_slice, expire, false, found-runs, free_threads, get_or, get_or-le-sum_by, get_or-map, get_or_from_slice_get, if◌then◌else◌, is_bad_processor, is_none, kept, length, ltb-false, map, map-set, min-eq_left, nat_le, nat_lt, newborn, next_name, number_of, numbered, opening, opening-order, opening_world, placed, processor_event, processor_turn, quanta_in, ready_threads, refl, resolved, saturated, set, set-get_or, set_number, slice_get, slice_get_within, slice_index, slice_on, slice_set, some-of, started, step, step-limits, step-order, subst, suc, sum, sum-map, sum_by, sum_by-cons, sum_by-set, sum_by_push, sym, system_after, system_answers, system_run, system_turn, thread_meant, thread_on, thread_there, ticks_in, total_of, trap, trap_effect, trap_refusal, true, turns_made, unless_refused, used_there, wake, weight_of, winner, with_ticks, zero, ℕ, [], ⊤, ◌*◌, ◌++◌, ◌+◌, ◌-◌, ◌<◌, ◌==◌, ◌^◌, ◌∙◌, ◌∷◌, ◌≡◌, ◌≤◌}
use Rattle.lot_machine.specs.declared.record.Status.TheVariants as status
use Rattle.lot_machine.specs.declared.event.Event.TheVariants as event
use Rattle.lot_machine.proofs.StepChanges.{IsConsole}
use Rattle.lot_simulation.proofs.DrawnThreads.{drawn-numbered, number-some}
use Rattle.lot_simulation.proofs.ProcessorCounts.{command-silent}

-- ---- something of each record, and its sum, after a change to one of them

number-get : {A : Type 0} (xs : List A) (n : ℕ) (x : A) → at_number xs n ≡ Some x → slice_get xs (n - 1) ≡ Some x
number-get xs zero x there = cc
number-get xs (suc i) x there = let place : suc i - 1 ≡ i = omega arith in ap (slice_get xs) place
    ∙ sym (at_number-suc xs i) ∙ there

module _ (g : Record → ℕ) (records : List Record) (t : ℕ) where
  -- what a record that is there has
  pub there-has : (r : Record) → at_number records t ≡ Some r → get_or (map g records) (t - 1) 0 ≡ g r
  there-has r is =
      let there = number-get records t r is in
      get_or-map g records (t - 1) r 0 (slice_get_within records (t - 1) r there)
      ∙ ap g (get_or_from_slice_get records (t - 1) r r there)

  -- it is no more than the sum
  there-within : (r : Record) → at_number records t ≡ Some r → g r ≤ sum_by g records
  there-within r is =
      let there = number-get records t r is in
      omega (arith, get_or-le-sum_by g records (t - 1) r (slice_get_within records (t - 1) r there), ap g (get_or_from_slice_get records (t - 1) r r there))

  -- one that has as much in its place leaves all
  put-leaves : (r old : Record) → at_number records t ≡ Some old → g r ≡ g old
      → map g (set_number records t r) ≡ map g records
  put-leaves r old is same = map-set g records (t - 1) r
      ∙ ap (set (map g records) (t - 1)) (same ∙ sym (there-has old is)) ∙ set-get_or (map g records) (t - 1) 0

  pub change-leaves : (change : Record → Record) → ((r : Record) → g (change r) ≡ g r)
      → map g (change_record change records t) ≡ map g records
  change-leaves change same = at (at_number records t) refl
    where
      at : (o : Option Record) → at_number records t ≡ o → map g (change_record change records t) ≡ map g records
      at None is = rw is refl
      at (Some r) is = rw is (put-leaves (change r) r is (same r))

  change-there : (change : Record → Record) (r : Record) → at_number records t ≡ Some r
      → sum_by g (change_record change records t) + g r ≡ sum_by g records + g (change r)
  change-there change r is =
      let there = number-get records t r is in
      let now : change_record change records t ≡ set_number records t (change r) = rw is refl in
      ap (λ rs. sum_by g rs + g r) now ∙ ap (λ x. sum_by g (set_number records t (change r)) + g x)
      (sym (get_or_from_slice_get records (t - 1) r r there))
      ∙ sum_by-set g records (t - 1) (change r) r (slice_get_within records (t - 1) r there)

sum-same : (g : Record → ℕ) (xs ys : List Record) → map g xs ≡ map g ys → sum_by g xs ≡ sum_by g ys
sum-same g xs ys same = sym (sum-map g xs) ∙ ap sum same ∙ sum-map g ys

saturated-small : (n : ℕ) → n < 2 ^ 64 → saturated n ≡ n
saturated-small n small = min-eq_left (omega (arith, small))

-- ---- what a step adds

abbrev quanta_of : List Record → ℕ
quanta_of records = sum_by (λ (r : Record). r.quanta) records

abbrev ticks_of : List Record → ℕ
ticks_of records = sum_by (λ (r : Record). r.ticks) records

-- as much as this, or less if numbers are given again: what a removed thread has won and used goes with its number
abbrev pub Comes : State → ℕ → ℕ → Type 0
Comes s n m = (n ≤ m) × (s.limits.reuse ≡ false → n ≡ m)

pub as-much : (s : State) (n m : ℕ) → n ≡ m → Comes s n m
as-much s n m same = (omega (arith, same), λ _. same)

-- the records have what the reply says besides, which is one quantum at most, and the ticks of one
record Adds (s : State) (done : Step) : Type 0 where
  pub quanta : Comes s (quanta_of done.state.records) (quanta_of s.records + quanta_in done.reply)
  pub ticks : Comes s (ticks_of done.state.records) (ticks_of s.records + ticks_in done.reply)
  pub bounded : quanta_in done.reply ≤ 1
  pub short : ticks_in done.reply ≤ s.limits.quantum

-- no sum is near the greatest u64
record HasSpace (s : State) : Type 0 where
  pub quanta : quanta_of s.records + 1 < 2 ^ 64
  pub ticks : ticks_of s.records + s.limits.quantum < 2 ^ 64

unless-adds : (s : State) (o : Option Refusal) (next : Step) → (o ≡ None → Adds s next)
    → Adds s (unless_refused s o next)
unless-adds s None next adds = adds refl
unless-adds s (Some refusal) next adds =
    record { quanta = as-much s _ _ (omega arith); ticks = as-much s _ _ (omega arith); bounded = omega arith; short = omega arith }

-- ---- commands

-- nothing in the place of one
sum-set_less : (g : Record → ℕ) (xs : List Record) (i : ℕ) (x : Record) → g x ≡ 0
    → sum_by g (slice_set xs i x) ≤ sum_by g xs
sum-set_less g [] zero x none = omega arith
sum-set_less g [] (suc i) x none = omega arith
sum-set_less g (y ∷ ys) zero x none = omega (arith, sum_by-cons g y ys, sum_by-cons g x ys, none)
sum-set_less g (y ∷ ys) (suc i) x none =
    omega (arith, sum_by-cons g y ys, sum_by-cons g y (slice_set ys i x), sum-set_less g ys i x none)

-- the same limits, and as much in all
abbrev SumsTo : (Record → ℕ) → State → State → Type 0
SumsTo g s a = (a.limits ≡ s.limits) × Comes s (sum_by g a.records) (sum_by g s.records)

-- a new thread has won and used nothing, and a command changes no other
change-sum : (c : Command) (g : Record → ℕ) (s : State) → g newborn ≡ 0 → Keeps (Console c) s (SumsTo g s)
change-sum c g s none a (NewThread t) allowed (limits, (most, exact)) =
    (limits, by-free (free_threads a) (λ once. ap (λ b. cond {A = List ℕ} b a.freed.threads []) (ap (λ (sizes : Sizes). sizes.reuse) limits ∙ once)))
  where
    by-free : (free : List ℕ) → (s.limits.reuse ≡ false → free ≡ [])
        → Comes s (sum_by g (placed a.records free newborn)) (sum_by g s.records)
    by-free [] empty =
        let more : sum_by g (a.records ++ newborn ∷ []) ≡ sum_by g a.records =
        omega (arith, sum_by_push g a.records newborn, none) in (omega (arith, more, most), λ once. more ∙ exact once)
    by-free (i ∷ free) empty =
        (omega (arith, sum-set_less g a.records i newborn none, most), λ once. let never : i ∷ free ≡ [] = empty once in cc)
change-sum c g s none a (PutRecord t r) allowed same = absurd (allowed.mover refl)
change-sum c g s none a other allowed same = same

-- the console does no work of a trap, unless it kills a thread
untallied : (by : By) → IsConsole by → ¬ IsTallied by
untallied (Console c) console tallied = tallied
untallied other console tallied = cc

-- something of a record that says nothing of what its thread does
module _ (g : Record → ℕ) (even : (r : Record) (st : Status) (compensation delivered : Option ℕ)
    → g (record r { status = st; compensation = compensation; delivered = delivered }) ≡ g r) where
  -- the work of a trap leaves it, in each record, and so does a kill
  change-even : (by : By) (s : State) → IsTallied by → Keeps by s (λ a. map g a.records ≡ map g s.records)
  change-even by s tallied a (NewThread t) allowed same = absurd (untallied by allowed.0 tallied)
  change-even by s tallied a (PutRecord t r) allowed same =
      put-leaves g a.records t r allowed.there.0 allowed.there.1
      (ap g (allowed.tally tallied) ∙ even allowed.there.0 r.status r.compensation r.delivered) ∙ same
  change-even by s tallied a other allowed same = same

  pub kill-even : (s : State) (thread : ThreadRef)
      → map g (command_step s (Kill thread)).state.records ≡ map g s.records
  kill-even s thread = kept (λ a. map g a.records ≡ map g s.records) (change-even (Kills (thread_meant s thread)) s tt)
      (command-leads s (Kill thread)) refl

  command-sum : (s : State) (c : Command) → g newborn ≡ 0
      → Comes s (sum_by g (command_step s c).state.records) (sum_by g s.records)
  command-sum s (Kill thread) none =
      as-much s _ _ (sum-same g (command_step s (Kill thread)).state.records s.records (kill-even s thread))
  command-sum s c none = (kept (SumsTo g s) (change-sum c g s none) (command-leads s c) (refl, as-much s _ _ refl)).1

command-adds : (s : State) (c : Command) → Adds s (command_step s c)
command-adds s c =
    let silent = command-silent s c in
    let quanta = command-sum (λ r. r.quanta) (λ r st compensation delivered. refl) s c refl in
    let ticks = command-sum (λ r. r.ticks) (λ r st compensation delivered. refl) s c refl in
    record {
      quanta = (omega (arith, quanta.0, silent.0), λ once. omega (arith, quanta.1 once, silent.0));
      ticks = (omega (arith, ticks.0, silent.2), λ once. omega (arith, ticks.1 once, silent.2));
      bounded = omega (arith, silent.0);
      short = omega (arith, silent.2);
    }

-- ---- draws

draw-adds : (s : State) (p d : ℕ) → HasSpace s → Adds s (draw s p d)
draw-adds s p d space = at (winner (map (weight_of s) (ready_threads s.records)) d) refl
  where
    won : (w : Drawn) → winner (map (weight_of s) (ready_threads s.records)) d ≡ Some w → Adds s (draw s p d)
    won w is =
        let t = slice_index (ready_threads s.records) w.place in
        let named : IsBetween 1 (length s.records) t = drawn-numbered s d w is in
        let r = get_or s.records (t - 1) newborn in
        let there : at_number s.records t ≡ Some r = number-some s.records t newborn named in
        let most = there-within (λ (x : Record). x.quanta) s.records t r there in
        let one : saturated (r.quanta + 1) ≡ r.quanta + 1 =
        saturated-small (r.quanta + 1) (omega (arith, most, space.quanta)) in
        let more = change-there (λ (x : Record). x.quanta) s.records t (started p) r there in
        let left = change-leaves (λ (x : Record). x.ticks) s.records t (started p) (λ x. refl) in
        rw is (record {
          quanta = as-much s _ _ (omega (arith, more, one));
          ticks = as-much s _ _ (omega
              (arith, sum-same (λ (x : Record). x.ticks) (change_record (started p) s.records t) s.records left));
          bounded = omega arith;
          short = omega arith;
        })

    at : (o : Option Drawn) → winner (map (weight_of s) (ready_threads s.records)) d ≡ o → Adds s (draw s p d)
    at None is = rw is (record { quanta = as-much s _ _ (omega arith); ticks = as-much s _ _ (omega arith); bounded = omega arith; short = omega arith })
    at (Some w) is = won w is

-- ---- expiries

-- ticks that are added to the record of a thread that is there
ticks-added : (records : List Record) (t n : ℕ) (change : Record → Record) (r : Record) → at_number records t ≡ Some r
    → ((x : Record) → (change x).ticks ≡ x.ticks)
    → ticks_of records + n < 2 ^ 64
    → ticks_of (change_record (λ x. with_ticks n (change x)) records t) ≡ ticks_of records + n
ticks-added records t n change r there same small =
    let most = there-within (λ (x : Record). x.ticks) records t r there in
    let sum : saturated ((change r).ticks + n) ≡ (change r).ticks + n =
    saturated-small ((change r).ticks + n) (omega (arith, most, small, same r)) in
    omega (arith, change-there (λ (x : Record). x.ticks) records t (λ x. with_ticks n (change x)) r there, sum, same r)

expire-adds : (s : State) (t used : ℕ) (r : Record) → at_number s.records t ≡ Some r → HasSpace s
    → Adds s (expire s t used)
expire-adds s t used r there space =
    let change : Record → Record = λ x. record x { status = status.Ready; compensation = None } in
    let expired : Record → Record = λ x. with_ticks (s.limits.quantum - used) (change x) in
    record {
      quanta = as-much s _ _ (omega (arith, sum-same (λ (x : Record). x.quanta) (change_record expired s.records t) s.records (change-leaves (λ (x : Record). x.quanta) s.records t expired (λ x. refl))));
      ticks = as-much s _ _
          (ticks-added s.records t (s.limits.quantum - used) change r there (λ x. refl) (omega (arith, space.ticks)));
      bounded = omega arith;
      short = omega arith;
    }

-- ---- traps

-- something of a record that says nothing of what its thread does
module _ (g : Record → ℕ) (even : (r : Record) (st : Status) (compensation delivered : Option ℕ)
    → g (record r { status = st; compensation = compensation; delivered = delivered }) ≡ g r) where
  pub checked-even : (s : State) (t : ℕ) (action : Action) (o : Option TrapRefusal)
      → map g (checked_effect s o (trap_effect s t action)).state.records ≡ map g s.records
  checked-even s t action o =
      kept (λ a. map g a.records ≡ map g s.records) (change-even g even Work s tt) (checked-leads s t action o).0 refl

  pub after-even : (after : After) (p used : ℕ) (limits : Sizes) (r : Record)
      → g (after_trap after p used limits r) ≡ g r
  after-even GoesOn p used limits r = at (nat_lt used limits.quantum) refl
    where
      at : (b : Bool) → nat_lt used limits.quantum ≡ b → g (after_trap GoesOn p used limits r) ≡ g r
      at true is = rw is (even r (status.Running p used) r.compensation r.delivered)
      at false is = rw is (even r status.Ready None r.delivered)
  after-even (Leaves st) p used limits r = even r st _ r.delivered
  after-even Ends p used limits r = even r status.Dead None r.delivered

trap-adds : (s : State) (p t used ran : ℕ) (action : Action) → IsBetween 1 (length s.records) t
    → used + ran + 1 ≤ s.limits.quantum → HasSpace s → Adds s (trap s p t used ran action)
trap-adds s p t used ran action named enough space =
    let effect = checked_effect s (trap_refusal s t action) (trap_effect s t action) in
    let change : Record → Record = after_trap effect.after p (used + ran + 1) s.limits in
    let trapped : Record → Record = λ r. with_ticks (ran + 1) (change r) in
    let sizes = checked-sizes s t action (trap_refusal s t action) in
    let there = number-some effect.state.records t newborn (named.0, omega (arith, named.1, sizes.1)) in
    let quanta =
    checked-even (λ r. r.quanta) (λ r st compensation delivered. refl) s t action (trap_refusal s t action) in
    let ticks =
    checked-even (λ r. r.ticks) (λ r st compensation delivered. refl) s t action (trap_refusal s t action) in
    let won = change-leaves (λ r. r.quanta) effect.state.records t trapped
    (after-even (λ r. r.quanta) (λ r st compensation delivered. refl) effect.after p (used + ran + 1) s.limits) in
    let used_up = sum-same (λ r. r.ticks) effect.state.records s.records ticks in
    record {
      quanta = as-much s _ _ (omega
          (arith, sum-same (λ r. r.quanta) (change_record trapped effect.state.records t) s.records (won ∙ quanta)));
      ticks = as-much s _ _ (ticks-added effect.state.records t (ran + 1) change _ there
          (after-even (λ r. r.ticks) (λ r st compensation delivered. refl) effect.after p (used + ran + 1) s.limits)
          (omega (arith, space.ticks, enough, used_up)) ∙ omega (arith, used_up));
      bounded = omega arith;
      short = omega (arith, enough);
    }

-- ---- events

-- the thread that is found on a processor is one of the numbered
pub there-numbered : (s : State) (p : ℕ) → is_none (thread_on s.records p) ≡ false
    → IsBetween 1 (length s.records) (thread_there s p)
there-numbered s p some = from (some-of (thread_on s.records p) some)
  where
    from : ((t : ℕ) × (thread_on s.records p ≡ Some t)) → IsBetween 1 (length s.records) (thread_there s p)
    from (t, found) = let there = found-runs s.records p t found in
        let named = numbered s.records t (status.Running p there.0) there.1 in
        rw found (named.0, omega (arith, named.1))

-- a command, a draw, an expiry, a trap or a wake: no system makes other events
abbrev pub IsMade : Event → Type 0
IsMade (event.Preempt p ticks) = ⊥
IsMade (event.Overrun p ticks) = ⊥
IsMade other = ⊤

pub slice-made : (p drawn : ℕ) (s : Slice) → IsMade (event_of_slice p drawn s)
slice-made p drawn s = by s.trap refl
  where
    by : (o : Option ScriptTrap) → s.trap ≡ o → IsMade (event_of_slice p drawn s)
    by None is = rw is tt
    by (Some trap) is = rw is tt

-- the event of a processor's turn is one of these
pub turn-made : (w : World) (p : ℕ) → IsMade (processor_event w p)
turn-made w p = by (thread_on w.state.records p) refl
  where
    by : (o : Option ℕ) → thread_on w.state.records p ≡ o → IsMade (processor_event w p)
    by None is = rw is tt
    by (Some t) is = rw is (slice-made p (number_of w p) (slice_on w p t))

-- so is that of any turn
pub actor-made : (program : Program) (w : World) (actor : ℕ) → IsMade (actor_event program w actor)
actor-made program w actor = at (nat_le actor program.limits.processors)
  where
    at : (b : Bool) → IsMade (if b then processor_event w actor else event.Wake (actor - program.limits.processors))
    at true = turn-made w actor
    at false = tt

step-adds : (s : State) (e : Event) → IsMade e → HasSpace s → Adds s (step s e)
step-adds s (event.Command command) made space = command-adds s command
step-adds s (event.Preempt p ticks) made space = absurd made
step-adds s (event.Overrun p ticks) made space = absurd made
step-adds s (event.Wake t) made space =
    unless-adds s _ (wake s t) (λ _.
    let ready : Record → Record = λ r. record r { status = status.Ready } in
    record {
      quanta = as-much s _ _ (omega (arith, sum-same (λ r. r.quanta) (change_record ready s.records t) s.records (change-leaves (λ r. r.quanta) s.records t ready (λ r. refl))));
      ticks = as-much s _ _ (omega (arith, sum-same (λ r. r.ticks) (change_record ready s.records t) s.records (change-leaves (λ r. r.ticks) s.records t ready (λ r. refl))));
      bounded = omega arith;
      short = omega arith;
    })
step-adds s (event.Draw p d) made space = unless-adds s _ (draw s p d) (λ _. draw-adds s p d space)
step-adds s (event.Expire p) made space =
    unless-adds s _ (event_effect s (event.Expire p)) (λ e.
    let passed =
    all-pass ((is_bad_processor s p, BadProcessor) ∷ (is_none (thread_on s.records p), NotRunning) ∷ []) e in
    expire-adds s (thread_there s p) (used_there s p) _
    (number-some s.records (thread_there s p) newborn (there-numbered s p passed.1.0)) space)
step-adds s (event.Trap p ran action) made space =
    unless-adds s _ (event_effect s (event.Trap p ran action)) (λ e.
    let passed = all-pass ((is_bad_processor s p, BadProcessor) ∷ (is_none (thread_on s.records p), NotRunning)
    ∷ (nat_lt s.limits.quantum (used_there s p + ran + 1), BadTicks) ∷ []) e in
    trap-adds s p (thread_there s p) (used_there s p) ran action (there-numbered s p passed.1.0)
    (ltb-false s.limits.quantum (used_there s p + ran + 1) passed.1.1.0) space)

-- ---- turns

pub comes-same : (s : State) {n k m j : ℕ} → n ≡ k → m ≡ j → Comes s n m → Comes s k j
comes-same s {n} {k} {m} {j} left right (most, exact) =
    (omega (arith, left, right, most), λ once. sym left ∙ exact once ∙ right)

-- first this, then that
pub comes-then : (s after : State) (last middle first more later total : ℕ) → after.limits ≡ s.limits → total
    ≡ more + later → Comes after last (middle + later) → Comes s middle (first + more) → Comes s last (first + total)
comes-then s after last middle first more later total limits sum (low, rest) (most, exact) =
    (omega (arith, sum, low, most), λ once. omega (arith, sum, rest (ap (λ (sizes : Sizes). sizes.reuse) limits ∙ once), exact once))

-- what a turn adds, and that the state stays in order
record AddsTurn (w : World) (turn : TurnMade) : Type 0 where
  pub quanta : Comes w.state (quanta_of turn.world.state.records)
      (quanta_of w.state.records + count_in quanta_in turn.answer)
  pub ticks : Comes w.state (ticks_of turn.world.state.records)
      (ticks_of w.state.records + count_in ticks_in turn.answer)
  pub bounded : count_in quanta_in turn.answer ≤ 1
  pub short : count_in ticks_in turn.answer ≤ w.state.limits.quantum
  pub order : IsInOrder turn.world.state
  pub limits : turn.world.state.limits ≡ w.state.limits

module _ (program : Program) where
  system_turn-adds : (w : World) (actor : ℕ) → IsInOrder w.state → HasSpace w.state
      → AddsTurn w (system_turn program w actor)
  system_turn-adds w actor order space = at (actor == 0)
    where
      of_step : (e : Event) (turn : TurnMade) → IsMade e → turn.world.state ≡ (step w.state e).state
          → turn.answer ≡ Answered e (step w.state e).reply → AddsTurn w turn
      of_step e turn made state answer =
          let adds = step-adds w.state e made space in
          record {
            quanta = comes-same w.state (sym (ap (λ (s : State). quanta_of s.records) state))
                (ap (λ a. quanta_of w.state.records + count_in quanta_in a) (sym answer)) adds.quanta;
            ticks = comes-same w.state (sym (ap (λ (s : State). ticks_of s.records) state))
                (ap (λ a. ticks_of w.state.records + count_in ticks_in a) (sym answer)) adds.ticks;
            bounded = omega (arith, adds.bounded, ap (count_in quanta_in) answer);
            short = omega (arith, adds.short, ap (count_in ticks_in) answer);
            order = subst IsInOrder (sym state) (step-order w.state e order);
            limits = ap (λ (s : State). s.limits) state ∙ step-limits w.state e;
          }

      console : (commands : List Command) → AddsTurn w (console_turn program w commands)
      console [] = record { quanta = as-much w.state _ _ (omega arith); ticks = as-much w.state _ _ (omega arith); bounded = omega arith; short = omega arith; order = order; limits = refl }
      console (c ∷ cs) =
          of_step (event.Command (resolved w.tickets (next_name w) c)) (console_turn program w (c ∷ cs)) tt refl refl

      at : (b : Bool) → AddsTurn w
          (if b then console_turn program w w.commands else processor_turn w actor (actor_event program w actor))
      at true = console w.commands
      at false = of_step (actor_event program w actor) (processor_turn w actor (actor_event program w actor))
          (actor-made program w actor) refl refl

  -- after k turns, and with less than 2 ^ 32 in all
  run-adds : (w : World) (k : ℕ) (actors : List ℕ) → IsInOrder w.state → quanta_of w.state.records ≤ k
      → ticks_of w.state.records ≤ k * 1000 → k + length actors < 2 ^ 32
      → Comes w.state (quanta_of (system_after program w actors).state.records)
      (quanta_of w.state.records + total_of quanta_in (beside actors (system_answers program w actors)))
      × Comes w.state (ticks_of (system_after program w actors).state.records)
      (ticks_of w.state.records + total_of ticks_in (beside actors (system_answers program w actors)))
  run-adds w k [] order quanta ticks bounded = (as-much w.state _ _ (omega arith), as-much w.state _ _ (omega arith))
  run-adds w k (actor ∷ actors) order quanta ticks bounded =
      let most : w.state.limits.quantum ≤ 1000 = order.bounds.of_quantum.1 in
      let turn = system_turn program w actor in
      let adds = system_turn-adds w actor order
      (record { quanta = omega (arith, quanta, bounded); ticks = omega (arith, ticks, bounded, most) }) in
      let later = run-adds turn.world (k + 1) actors adds.order (omega (arith, adds.quanta.0, adds.bounded, quanta))
      (omega (arith, adds.ticks.0, adds.short, most, ticks)) (omega (arith, bounded)) in
      let others = beside actors (system_answers program turn.world actors) in
      let first : ActorTurn = record { actor = actor; answer = turn.answer } in (
        comes-then w.state turn.world.state _ (quanta_of turn.world.state.records) (quanta_of w.state.records)
            (count_in quanta_in turn.answer) (total_of quanta_in others) _ adds.limits
            (sum_by-cons (λ (t : ActorTurn). count_in quanta_in t.answer) first others) later.0 adds.quanta,
        comes-then w.state turn.world.state _ (ticks_of turn.world.state.records) (ticks_of w.state.records)
            (count_in ticks_in turn.answer) (total_of ticks_in others) _ adds.limits
            (sum_by-cons (λ (t : ActorTurn). count_in ticks_in t.answer) first others) later.1 adds.ticks,
      )

  module _ (history : List ℕ) (bounds : IsWithinBounds program.limits) (bounded : length history < 2 ^ 32) where
    abbrev sums : Comes (opening program.limits) (quanta_of (system_run program history).state.records)
        (0 + total_of quanta_in (turns_made program history))
        × Comes (opening program.limits) (ticks_of (system_run program history).state.records)
        (0 + total_of ticks_in (turns_made program history))
    sums = run-adds (opening_world program) 0 history (opening-order program.limits bounds) (omega arith) (omega arith)
        (omega (arith, bounded))

    pub quanta-add_up : program.limits.reuse ≡ false → sum_by (λ (r : Record). r.quanta)
        (system_run program history).state.records ≡ total_of quanta_in (turns_made program history)
    quanta-add_up once = omega (arith, sums.0.1 once)

    pub ticks-add_up : program.limits.reuse ≡ false → sum_by (λ (r : Record). r.ticks)
        (system_run program history).state.records ≡ total_of ticks_in (turns_made program history)
    ticks-add_up once = omega (arith, sums.1.1 once)

    pub quanta-within : sum_by (λ (r : Record). r.quanta)
        (system_run program history).state.records ≤ total_of quanta_in (turns_made program history)
    quanta-within = omega (arith, sums.0.0)

    pub ticks-within : sum_by (λ (r : Record). r.ticks)
        (system_run program history).state.records ≤ total_of ticks_in (turns_made program history)
    ticks-within = omega (arith, sums.1.0)
