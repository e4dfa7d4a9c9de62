-- A thread's record has the ticks of the turns that name the thread.
use Rattle.lot_chart.proofs.Common.{Action, ActorTurn, Answered, BadProcessor, BadTicks, Bool, Comes, Command, Console, Drawn, Event, Idle, IsBetween, IsInOrder, IsLegal, IsMade, IsWithinBounds, Keeps, Kill, List, NewThread, None, NotRunning, Option, Program, PutRecord, Record, Refusal, Sizes, Some, State, Status, Step, Stretch, Thread, ThreadRow, Ticks, TimedTurn, TurnAnswer, TurnMade, World, actor-made, actor_event, actor_turns, after-even, after_trap, all-pass, ap, arith, as-much, at_number, beside, change-leaves, change_record, charged_thread, checked-even, checked-sizes, checked_effect, comes-same, comes-then, command-leads, command-silent, command_step, cond, console_turn, count_in, draw, ended_after, eqb-false, eqb-true, event_effect, expire, false, free_threads, get_or, get_or-set_other, get_or-set_same, had_at, if◌then◌else◌, is_bad_processor, is_none, kept, kill-even, last_end, last_moment, length, length-map, ltb-false, map, map-append, map-set, min-eq_left, nat_lt, newborn, next_name, number-some, opening, opening-order, opening_world, option_and_then, option_map, placed, processor_turn, ready_threads, refl, resolved, row_of_thread, saturated, set, set_number, slice_index, slice_set, started, step, step-limits, step-order, stretch_of, stretches_made, stretches_of, subst, suc, sum_by, sum_by-cons, sym, system_after, system_answers, system_run, system_turn, there-has, there-numbered, thread_name, thread_on, thread_row, thread_there, ticks-at_last, ticks_in, timed-made, timed-world, timed_schedule, timed_stretches, timed_turns, total_of, trap, trap_effect, trap_refusal, true, turns_made, turns_of, unless_refused, used_there, wake, weight_of, winner, with_ticks, zero, ℕ, [], ◌*◌, ◌++◌, ◌+◌, ◌-◌, ◌<◌, ◌==◌, ◌^◌, ◌∙◌, ◌∷◌, ◌≡◌, ◌≢◌, ◌≤◌}
use Rattle.lot_machine.specs.declared.record.Status.TheVariants as status
use Rattle.lot_machine.specs.declared.event.Event.TheVariants as event
use Rattle.lot_chart.proofs.NotedFacts.{timed_stretch}
use Rattle.lot_chart.proofs.Notes.{timed-few}

-- the ticks of each record, and of the one at a place, or none
abbrev all_ticks : List Record → List ℕ
all_ticks records = map (λ (r : Record). r.ticks) records

abbrev own_ticks : List Record → ℕ → ℕ
own_ticks records i = get_or (all_ticks records) i 0

-- ---- a change to one record

cond-none : (b : Bool) → ◌≡◌ {A = ℕ} (cond b 0 0) 0
cond-none true = refl
cond-none false = refl

-- ticks that are added to the record of a thread that is there
module _ (records : List Record) (u n : ℕ) (change : Record → Record) (i : ℕ) (named : IsBetween 1 (length records) u)
    (same : (x : Record) → (change x).ticks ≡ x.ticks) (small : own_ticks records i + n < 2 ^ 64) where
  abbrev r : Record
  r = get_or records (u - 1) newborn

  abbrev sum : ℕ
  sum = saturated ((change r).ticks + n)

  abbrev after : List Record
  after = change_record (λ x. with_ticks n (change x)) records u

  there : at_number records u ≡ Some r
  there = number-some records u newborn named

  now : all_ticks after ≡ set (all_ticks records) (u - 1) sum
  now =
      let put : after ≡ set_number records u (with_ticks n (change r)) = rw there refl in
      ap all_ticks put ∙ map-set (λ (x : Record). x.ticks) records (u - 1) (with_ticks n (change r))

  ticks-added : own_ticks after i ≡ own_ticks records i + cond (u == suc i) n 0
  ticks-added = at (u == suc i) refl
    where
      at : (b : Bool) → (u == suc i) ≡ b → own_ticks after i ≡ own_ticks records i + cond b n 0
      at true is =
          let equal : u ≡ suc i = eqb-true u (suc i) is in
          let place : u - 1 ≡ i = omega (arith, equal) in
          let has : own_ticks records i ≡ r.ticks = ap (λ k. get_or (all_ticks records) k 0) (sym place)
          ∙ there-has (λ (x : Record). x.ticks) records u r there in
          let fits : sum ≡ (change r).ticks + n = min-eq_left (omega (arith, small, has, same r)) in
          let within : i < length (all_ticks records) =
          omega (arith, length-map records (λ (x : Record). x.ticks), named.1, equal) in
          ap (λ xs. get_or xs i 0) (now ∙ ap (λ k. set (all_ticks records) k sum) place)
          ∙ get_or-set_same (all_ticks records) i sum 0 within ∙ omega (arith, fits, same r, has)
      at false is =
          let other : i ≢ u - 1 = λ e. eqb-false u (suc i) is (omega (arith, e, named.0)) in
          ap (λ xs. get_or xs i 0) now ∙ get_or-set_other (all_ticks records) (u - 1) i sum 0 other ∙ omega arith

-- ---- what a step adds

-- the record at the place has what the reply says besides, if it names it; and that is no more than a quantum
record Adds (s : State) (i : ℕ) (done : Step) : Type 0 where
  pub own : Comes s (own_ticks done.state.records i)
      (own_ticks s.records i + cond (charged_thread done.reply == suc i) (ticks_in done.reply) 0)
  pub short : ticks_in done.reply ≤ s.limits.quantum

-- the ticks come to as many, and the reply has none
comes-silent : (s : State) (i : ℕ) (done : Step) → Comes s (own_ticks done.state.records i) (own_ticks s.records i)
    → ticks_in done.reply ≡ 0 → Adds s i done
comes-silent s i done comes none =
    let nothing : cond (charged_thread done.reply == suc i) (ticks_in done.reply) 0 ≡ 0 =
    ap (λ n. cond (charged_thread done.reply == suc i) n 0) none ∙ cond-none (charged_thread done.reply == suc i) in
    record { own = (omega (arith, comes.0, nothing), λ once. omega (arith, comes.1 once, nothing)); short = omega (arith, none) }

-- the ticks stay, and the reply has none
stays : (s : State) (i : ℕ) (done : Step) → own_ticks done.state.records i ≡ own_ticks s.records i
    → ticks_in done.reply ≡ 0 → Adds s i done
stays s i done same none = comes-silent s i done (as-much s _ _ same) none

unless-adds : (s : State) (i : ℕ) (o : Option Refusal) (next : Step) → (o ≡ None → Adds s i next)
    → Adds s i (unless_refused s o next)
unless-adds s i None next adds = adds refl
unless-adds s i (Some refusal) next adds = stays s i (unless_refused s (Some refusal) next) refl refl

-- one thread more has no ticks
grown : (records : List Record) (i : ℕ) → own_ticks (records ++ newborn ∷ []) i ≡ own_ticks records i
grown records i = ap (λ xs. get_or xs i 0) (map-append (λ (r : Record). r.ticks) records (newborn ∷ []))
    ∙ zeros (all_ticks records) i
  where
    zeros : (xs : List ℕ) (k : ℕ) → get_or (xs ++ 0 ∷ []) k 0 ≡ get_or xs k 0
    zeros [] zero = refl
    zeros [] (suc k) = refl
    zeros (x ∷ xs) zero = refl
    zeros (x ∷ xs) (suc k) = zeros xs k

-- nor does one in the place of another have more
placed-less : (records : List Record) (j i : ℕ) → own_ticks (slice_set records j newborn) i ≤ own_ticks records i
placed-less [] zero i = omega arith
placed-less [] (suc j) i = omega arith
placed-less (r ∷ rs) zero zero = omega arith
placed-less (r ∷ rs) zero (suc i) = omega arith
placed-less (r ∷ rs) (suc j) zero = omega arith
placed-less (r ∷ rs) (suc j) (suc i) = placed-less rs j i

-- the same limits, and as many ticks
abbrev OwnFrom : State → ℕ → State → Type 0
OwnFrom s i a = (a.limits ≡ s.limits) × Comes s (own_ticks a.records i) (own_ticks s.records i)

-- and a command changes no other
change-own : (c : Command) (s : State) (i : ℕ) → Keeps (Console c) s (OwnFrom s i)
change-own c s i a (NewThread t) allowed (limits, (most, exact)) =
    (limits, by-free (free_threads a) (λ once. ap (λ b. cond {A = List ℕ} b a.freed.threads []) (ap (λ (sizes : Sizes). sizes.reuse) limits ∙ once)))
  where
    by-free : (free : List ℕ) → (s.limits.reuse ≡ false → free ≡ [])
        → Comes s (own_ticks (placed a.records free newborn) i) (own_ticks s.records i)
    by-free [] empty = let same : own_ticks (a.records ++ newborn ∷ []) i ≡ own_ticks a.records i = grown a.records i in
        (omega (arith, same, most), λ once. same ∙ exact once)
    by-free (j ∷ free) empty =
        (omega (arith, placed-less a.records j i, most), λ once. let never : j ∷ free ≡ [] = empty once in cc)
change-own c s i a (PutRecord t r) allowed same = absurd (allowed.mover refl)
change-own c s i a other allowed same = same

command-adds : (s : State) (i : ℕ) (c : Command) → Adds s i (command_step s c)
command-adds s i (Kill thread) =
    stays s i (command_step s (Kill thread)) (ap (λ xs. get_or xs i 0) (kill-even (λ (r : Record). r.ticks)
    (λ r st compensation delivered. refl) s thread)) (command-silent s (Kill thread)).2
command-adds s i c = comes-silent s i (command_step s c)
    (kept (OwnFrom s i) (change-own c s i) (command-leads s c) (refl, as-much s _ _ refl)).1 (command-silent s c).2

draw-adds : (s : State) (i p d : ℕ) → Adds s i (draw s p d)
draw-adds s i p d = at (winner (map (weight_of s) (ready_threads s.records)) d) refl
  where
    at : (o : Option Drawn) → winner (map (weight_of s) (ready_threads s.records)) d ≡ o → Adds s i (draw s p d)
    at None is = rw is (stays s i (record { state = s; reply = Idle }) refl refl)
    at (Some w) is =
        let t = slice_index (ready_threads s.records) w.place in
        rw is (stays s i _
        (ap (λ xs. get_or xs i 0) (change-leaves (λ (x : Record). x.ticks) s.records t (started p) (λ r. refl))) refl)

expire-adds : (s : State) (i t used : ℕ) → IsBetween 1 (length s.records) t
    → own_ticks s.records i + s.limits.quantum < 2 ^ 64 → Adds s i (expire s t used)
expire-adds s i t used named space =
    record {
      own = as-much s _ _ (ticks-added s.records t (s.limits.quantum - used)
          (λ x. record x { status = status.Ready; compensation = None }) i named (λ x. refl) (omega (arith, space)));
      short = omega arith;
    }

-- ---- traps leave all ticks but those of the thread that made them

trap-adds : (s : State) (i p t used ran : ℕ) (action : Action) → IsBetween 1 (length s.records) t → used + ran + 1
    ≤ s.limits.quantum → own_ticks s.records i + s.limits.quantum < 2 ^ 64 → Adds s i (trap s p t used ran action)
trap-adds s i p t used ran action named enough space =
    let effect = checked_effect s (trap_refusal s t action) (trap_effect s t action) in
    let ticks_stay : (r : Record) (st : Status) (compensation delivered : Option ℕ)
    → (record r { status = st; compensation = compensation; delivered = delivered }).ticks ≡ r.ticks =
    λ r st compensation delivered. refl in
    let same : own_ticks effect.state.records i ≡ own_ticks s.records i =
    ap (λ xs. get_or xs i 0) (checked-even (λ r. r.ticks) ticks_stay s t action (trap_refusal s t action)) in
    let sizes = checked-sizes s t action (trap_refusal s t action) in
    let change : Record → Record = after_trap effect.after p (used + ran + 1) s.limits in
    record {
      own = as-much s _ _ (ticks-added effect.state.records t (ran + 1) change i
          (named.0, omega (arith, named.1, sizes.1)) (after-even (λ r. r.ticks) ticks_stay effect.after p (used + ran
          + 1) s.limits) (omega (arith, space, enough, same)) ∙ ap (λ n. n + cond (t == suc i) (ran + 1) 0) same);
      short = omega (arith, enough);
    }

-- ---- events

step-adds : (s : State) (i : ℕ) (e : Event) → IsMade e → own_ticks s.records i + s.limits.quantum < 2 ^ 64
    → Adds s i (step s e)
step-adds s i (event.Command command) made space = command-adds s i command
step-adds s i (event.Preempt p ticks) made space = absurd made
step-adds s i (event.Overrun p ticks) made space = absurd made
step-adds s i (event.Wake t) made space =
    unless-adds s i _ (wake s t) (λ _.
    let ready : Record → Record = λ r. record r { status = status.Ready } in
    record {
      own = as-much s _ _ (ap (λ xs. get_or xs i 0) (change-leaves (λ r. r.ticks) s.records t ready (λ r. refl))
          ∙ omega (arith, cond-none (0 == suc i)));
      short = omega arith;
    })
step-adds s i (event.Draw p d) made space = unless-adds s i _ (draw s p d) (λ _. draw-adds s i p d)
step-adds s i (event.Expire p) made space =
    unless-adds s i _ (event_effect s (event.Expire p)) (λ e.
    let passed =
    all-pass ((is_bad_processor s p, BadProcessor) ∷ (is_none (thread_on s.records p), NotRunning) ∷ []) e in
    expire-adds s i (thread_there s p) (used_there s p) (there-numbered s p passed.1.0) space)
step-adds s i (event.Trap p ran action) made space =
    unless-adds s i _ (event_effect s (event.Trap p ran action)) (λ e.
    let passed = all-pass ((is_bad_processor s p, BadProcessor) ∷ (is_none (thread_on s.records p), NotRunning)
    ∷ (nat_lt s.limits.quantum (used_there s p + ran + 1), BadTicks) ∷ []) e in
    trap-adds s i p (thread_there s p) (used_there s p) ran action (there-numbered s p passed.1.0)
    (ltb-false s.limits.quantum (used_there s p + ran + 1) passed.1.1.0) space)

-- ---- turns

-- what an answer has for the thread at the place
abbrev part_of : ℕ → TurnAnswer → ℕ
part_of i answer = cond (count_in charged_thread answer == suc i) (count_in ticks_in answer) 0

record AddsTurn (w : World) (i : ℕ) (turn : TurnMade) : Type 0 where
  pub own : Comes w.state (own_ticks turn.world.state.records i) (own_ticks w.state.records i + part_of i turn.answer)
  pub short : count_in ticks_in turn.answer ≤ w.state.limits.quantum
  pub order : IsInOrder turn.world.state
  pub limits : turn.world.state.limits ≡ w.state.limits

part-short : (i : ℕ) (answer : TurnAnswer) → part_of i answer ≤ count_in ticks_in answer
part-short i answer = at (count_in charged_thread answer == suc i)
  where
    at : (b : Bool) → cond b (count_in ticks_in answer) 0 ≤ count_in ticks_in answer
    at true = omega arith
    at false = omega arith

module _ (program : Program) (i : ℕ) where
  turn-adds : (w : World) (actor : ℕ) → IsInOrder w.state
      → own_ticks w.state.records i + w.state.limits.quantum < 2 ^ 64 → AddsTurn w i (system_turn program w actor)
  turn-adds w actor order space = at (actor == 0)
    where
      of_step : (e : Event) (turn : TurnMade) → IsMade e → turn.world.state ≡ (step w.state e).state
          → turn.answer ≡ Answered e (step w.state e).reply → AddsTurn w i turn
      of_step e turn made state answer =
          let adds = step-adds w.state i e made space in
          record {
            own = comes-same w.state (sym (ap (λ (s : State). own_ticks s.records i) state))
                (ap (λ a. own_ticks w.state.records i + part_of i a) (sym answer)) adds.own;
            short = omega (arith, adds.short, ap (count_in ticks_in) answer);
            order = subst IsInOrder (sym state) (step-order w.state e order);
            limits = ap (λ (s : State). s.limits) state ∙ step-limits w.state e;
          }

      console : (commands : List Command) → AddsTurn w i (console_turn program w commands)
      console [] = record { own = as-much w.state _ _ (omega (arith, cond-none (0 == suc i))); short = omega arith; order = order; limits = refl }
      console (c ∷ cs) =
          of_step (event.Command (resolved w.tickets (next_name w) c)) (console_turn program w (c ∷ cs)) tt refl refl

      at : (b : Bool) → AddsTurn w i
          (if b then console_turn program w w.commands else processor_turn w actor (actor_event program w actor))
      at true = console w.commands
      at false = of_step (actor_event program w actor) (processor_turn w actor (actor_event program w actor))
          (actor-made program w actor) refl refl

  run-adds : (w : World) (k : ℕ) (actors : List ℕ) → IsInOrder w.state → own_ticks w.state.records i ≤ k * 1000
      → k + length actors < 2 ^ 32
      → Comes w.state (own_ticks (system_after program w actors).state.records i) (own_ticks w.state.records i
      + sum_by (λ (turn : ActorTurn). part_of i turn.answer) (beside actors (system_answers program w actors)))
  run-adds w k [] order small bounded = as-much w.state _ _ (omega arith)
  run-adds w k (actor ∷ actors) order small bounded =
      let most : w.state.limits.quantum ≤ 1000 = order.bounds.of_quantum.1 in
      let turn = system_turn program w actor in
      let adds = turn-adds w actor order (omega (arith, small, bounded, most)) in
      let later = run-adds turn.world (k + 1) actors adds.order
      (omega (arith, adds.own.0, part-short i turn.answer, adds.short, most, small)) (omega (arith, bounded)) in
      let others = beside actors (system_answers program turn.world actors) in
      let first : ActorTurn = record { actor = actor; answer = turn.answer } in
      comes-then w.state turn.world.state _ (own_ticks turn.world.state.records i) (own_ticks w.state.records i)
      (part_of i turn.answer) (sum_by (λ (t : ActorTurn). part_of i t.answer) others) _ adds.limits
      (sum_by-cons (λ (t : ActorTurn). part_of i t.answer) first others) later adds.own

-- ---- the stretches of one thread

-- one stretch more
stretch-more : (i : ℕ) (s : Stretch) (rest : List Stretch) (parts : ℕ) (b : Bool)
    → sum_by (λ (x : Stretch). x.ticks) (stretches_of (suc i) rest) ≡ parts
    → sum_by (λ (x : Stretch). x.ticks)
    (cond b (s ∷ stretches_of (suc i) rest) (stretches_of (suc i) rest)) ≡ cond b s.ticks 0 + parts
stretch-more i s rest parts true more = sum_by-cons (λ (x : Stretch). x.ticks) s (stretches_of (suc i) rest)
    ∙ ap (λ n. s.ticks + n) more
stretch-more i s rest parts false more = omega (arith, more)

-- of turns that are each at its actor's own time
own-sum : (i : ℕ) (before turns : List ActorTurn)
    → sum_by (λ (s : Stretch). s.ticks) (stretches_of (suc i) (map stretch_of (ended_after before turns)))
    ≡ sum_by (λ (turn : ActorTurn). part_of i turn.answer) turns
own-sum i before [] = refl
own-sum i before (turn ∷ turns) =
    let s : Stretch = stretch_of
    (record { time = total_of ticks_in (turns_of turn.actor (before ++ turn ∷ [])); answer = turn.answer }) in
    let rest = map stretch_of (ended_after (before ++ turn ∷ []) turns) in
    let parts = sum_by (λ (t : ActorTurn). part_of i t.answer) turns in
    stretch-more i s rest parts (s.thread == suc i) (own-sum i (before ++ turn ∷ []) turns)
    ∙ sym (sum_by-cons (λ (t : ActorTurn). part_of i t.answer) turn turns)

-- of turns in the order of time
timed-sum : (i : ℕ) (turns : List TimedTurn) → sum_by (λ (s : Stretch). s.ticks)
    (stretches_of (suc i) (map timed_stretch turns)) ≡ sum_by (λ (turn : ActorTurn). part_of i turn.answer)
    (actor_turns turns)
timed-sum i [] = refl
timed-sum i (turn ∷ turns) =
    let s = timed_stretch turn in
    let parts = sum_by (λ (t : ActorTurn). part_of i t.answer) (actor_turns turns) in
    let first : ActorTurn = record { actor = turn.actor; answer = turn.turn.answer } in
    stretch-more i s (map timed_stretch turns) parts (s.thread == suc i) (timed-sum i turns)
    ∙ sym (sum_by-cons (λ (t : ActorTurn). part_of i t.answer) first (actor_turns turns))

module _ (program : Program) (bounds : IsWithinBounds program.limits) (i : ℕ) where
  own-ticks : (history : List ℕ) → length history < 2 ^ 32
      → Comes (opening program.limits) (own_ticks (system_run program history).state.records i)
      (sum_by (λ (s : Stretch). s.ticks) (stretches_of (suc i) (stretches_made program history)))
  own-ticks history bounded =
      let run = run-adds program i (opening_world program) 0 history (opening-order program.limits bounds) (omega arith)
      (omega (arith, bounded)) in
      (omega (arith, run.0, own-sum i [] (turns_made program history)), λ once. omega (arith, run.1 once, own-sum i [] (turns_made program history)))

  timed-ticks : Comes (opening program.limits) (own_ticks (system_run program (timed_schedule program)).state.records i)
      (sum_by (λ (s : Stretch). s.ticks) (stretches_of (suc i) (timed_stretches program)))
  timed-ticks =
      let few : length (timed_schedule program) < 2 ^ 32 =
      omega (arith, length-map (timed_turns program) (λ (turn : TimedTurn). turn.actor), timed-few program) in
      let run = run-adds program i (opening_world program) 0 (timed_schedule program)
      (opening-order program.limits bounds) (omega arith) (omega (arith, few)) in
      let made = ap (sum_by (λ (turn : ActorTurn). part_of i turn.answer)) (timed-made program) in
      (omega (arith, run.0, timed-sum i (timed_turns program), made), λ once. omega (arith, run.1 once, timed-sum i (timed_turns program), made))

-- ---- the report

-- the row of a thread, if it has a name
abbrev row_if : State → ℕ → Option (List ℕ) → Option ThreadRow
row_if s t o = option_and_then (λ (name : List ℕ). option_map (row_of_thread s t) (at_number s.records t)) o

-- the ticks that a row shows are those of the record
row-ticks : (s : State) (t : ℕ) (row : ThreadRow) → thread_row s t ≡ Some row
    → (i : ℕ) × (t ≡ suc i) × (row.ticks ≡ own_ticks s.records i)
row-ticks s zero row is = cc
row-ticks s (suc i) row is = by (thread_name s (suc i)) refl
  where
    by : (o : Option (List ℕ)) → thread_name s (suc i) ≡ o
        → (k : ℕ) × (suc i ≡ suc k) × (row.ticks ≡ own_ticks s.records k)
    by None gone = let none : None ≡ Some row = sym (ap (row_if s (suc i)) gone) ∙ is in cc
    by (Some name) here = at (at_number s.records (suc i)) refl
      where
        at : (o : Option Record) → at_number s.records (suc i) ≡ o
            → (k : ℕ) × (suc i ≡ suc k) × (row.ticks ≡ own_ticks s.records k)
        at None there = let none : None ≡ Some row = sym (ap (option_map (row_of_thread s (suc i))) there)
            ∙ sym (ap (row_if s (suc i)) here) ∙ is in cc
        at (Some r) there =
            let same : Some (row_of_thread s (suc i) r) ≡ Some row =
            sym (ap (option_map (row_of_thread s (suc i))) there) ∙ sym (ap (row_if s (suc i)) here) ∙ is in
            let shown : row_of_thread s (suc i) r ≡ row = cc in
            let place : suc i - 1 ≡ i = omega arith in
            (i, refl, sym (ap (λ (x : ThreadRow). x.ticks) shown) ∙ sym (there-has (λ (x : Record). x.ticks) s.records (suc i) r there) ∙ ap (λ n. get_or (all_ticks s.records) n 0) place)

-- a curve ends at what the record has, or above it if numbers are given again
ends-at : (s opened : State) (stretches : List Stretch) → ((i : ℕ)
    → Comes opened (own_ticks s.records i) (sum_by (λ (x : Stretch). x.ticks) (stretches_of (suc i) stretches)))
    → (t : ℕ) (row : ThreadRow) → thread_row s t ≡ Some row
    → Comes opened row.ticks (had_at Ticks (last_end stretches) (stretches_of t stretches))
ends-at s opened stretches own t row is =
    let found = row-ticks s t row is in
    let last : sum_by (λ (x : Stretch).
    x.ticks) (stretches_of (suc found.0) stretches) ≡ had_at Ticks (last_end stretches) (stretches_of t stretches) =
    sym (ticks-at_last
    (record { by = Thread; names = []; stretches = stretches; origin = 0; window = None; commands = [] }) t
    ∙ ap (λ n. sum_by (λ (x : Stretch). x.ticks) (stretches_of n stretches)) found.1) in
    comes-same opened (sym found.2) last (own found.0)

ends-report : (program : Program) (room : ℕ) (history : List ℕ) (t : ℕ) (row : ThreadRow)
    → IsWithinBounds program.limits → IsLegal program room history → room < 2 ^ 32
    → thread_row (system_run program history).state t ≡ Some row
    → Comes (opening program.limits) row.ticks
    (had_at Ticks (last_end (stretches_made program history)) (stretches_of t (stretches_made program history)))
ends-report program room history t row bounds legal small is =
    ends-at (system_run program history).state (opening program.limits) (stretches_made program history)
    (λ i. own-ticks program bounds i history (omega (arith, legal.within_room, small))) t row is

pub ends-at_report : (program : Program) (room : ℕ) (history : List ℕ) (t : ℕ) (row : ThreadRow)
    → IsWithinBounds program.limits → IsLegal program room history → room < 2 ^ 32 → program.limits.reuse ≡ false
    → thread_row (system_run program history).state t ≡ Some row
    → had_at Ticks (last_end (stretches_made program history))
    (stretches_of t (stretches_made program history)) ≡ row.ticks
ends-at_report program room history t row bounds legal small once is =
    sym ((ends-report program room history t row bounds legal small is).1 once)

pub ends-within_report : (program : Program) (room : ℕ) (history : List ℕ) (t : ℕ) (row : ThreadRow)
    → IsWithinBounds program.limits → IsLegal program room history → room < 2 ^ 32
    → thread_row (system_run program history).state t ≡ Some row → row.ticks
    ≤ had_at Ticks (last_end (stretches_made program history)) (stretches_of t (stretches_made program history))
ends-within_report program room history t row bounds legal small is =
    (ends-report program room history t row bounds legal small is).0

timed-ends-report : (program : Program) (t : ℕ) (row : ThreadRow) → IsWithinBounds program.limits
    → thread_row (last_moment program).world.state t ≡ Some row
    → Comes (opening program.limits) row.ticks
    (had_at Ticks (last_end (timed_stretches program)) (stretches_of t (timed_stretches program)))
timed-ends-report program t row bounds is =
    let there = ap (λ (w : World). thread_row w.state t) (sym (timed-world program)) ∙ is in
    ends-at (system_run program (timed_schedule program)).state (opening program.limits) (timed_stretches program)
    (timed-ticks program bounds) t row there

pub timed-ends-at_report : (program : Program) (t : ℕ) (row : ThreadRow) → IsWithinBounds program.limits
    → program.limits.reuse ≡ false → thread_row (last_moment program).world.state t ≡ Some row
    → had_at Ticks (last_end (timed_stretches program)) (stretches_of t (timed_stretches program)) ≡ row.ticks
timed-ends-at_report program t row bounds once is = sym ((timed-ends-report program t row bounds is).1 once)

pub timed-ends-within_report : (program : Program) (t : ℕ) (row : ThreadRow) → IsWithinBounds program.limits
    → thread_row (last_moment program).world.state t ≡ Some row
    → row.ticks ≤ had_at Ticks (last_end (timed_stretches program)) (stretches_of t (timed_stretches program))
timed-ends-within_report program t row bounds is = (timed-ends-report program t row bounds is).0
