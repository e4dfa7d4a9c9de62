-- The parts due to threads, and their waits to run, turn by turn.
use Rattle.lot_playback.proofs.Common.{Answered, Answers, AreDue, AreFew, AreOwed, AreReadyFor, AreWaiting, Asleep, Bool, Dead, DueTable, Event, HasFew, HaveQueued, HaveQueuedOne, HaveValues, IsDispatch, IsOwed, IsReadyFor, IsSound, List, None, NoneWaitsBeyond, Option, Owing, Queued, Ready, Receiving, Record, Reply, Running, Served, Sharers, Some, Spans, State, Status, Threads, TimedTurn, TurnAnswer, Waiting, ap, arith, cases_eq, cases_lt, count_in, div-le_self, due_after, due_from, due_to, eq-eqb, false, fold_push, forgotten, get_or-set_at, get_or-set_other, get_or_default, if◌then◌else◌, inl, inr, is_ready, is_some, length, length-set, makes, makes_one, moved_thread, mul-add, mul-div-le, mul-le-mul_right, ne_eqb, no_spans, numbered, option_any, part_in, parts_before, queued, rate_in, ready_after, ready_in, refl, set, shared_ticks, slice_index_or, some-injective, span_begun, span_ended, state_after, status_of, subst, sym, tick_parts, time_after, time_from, time_shared, true, value_in, waits_before, whole_in, ℕ, [], ◌*◌, ◌++◌, ◌+◌, ◌-◌, ◌/◌, ◌<◌, ◌==◌, ◌^◌, ◌∙◌, ◌∷◌, ◌≡◌, ◌≢◌, ◌≤◌, ◌⊎◌}
use Rattle.lot_playback.proofs.DispatchFacts.{none-made, status-kept, value-kept, whole-kept}
use Rattle.lot_playback.proofs.MadeCurrencies.{count-grows}
use Rattle.lot_playback.proofs.WorthFacts.{value-none, value-within, whole-small}

-- ---- one turn more

pub due-more : (part : State → ℕ → ℕ) (is_new : TurnAnswer → Bool) (first : State) (time due : ℕ)
    (done : List TimedTurn) (turn : TimedTurn)
    → due_from part is_new first time due (done ++ turn ∷ []) ≡ due_after part is_new (state_after first done)
    (turn.time - time_after time done) (due_from part is_new first time due done) turn.turn.answer
due-more part is_new first time due [] turn = refl
due-more part is_new first time due (d ∷ done) turn = due-more part is_new d.turn.world.state d.time
    (due_after part is_new first (d.time - time) due d.turn.answer) done turn

pub counted-more : (counted : State → ℕ → ℕ) (first : State) (time all : ℕ) (done : List TimedTurn) (turn : TimedTurn)
    → time_from counted first time all (done ++ turn ∷ [])
    ≡ time_from counted first time all done + counted (state_after first done) (turn.time - time_after time done)
counted-more counted first time all [] turn = refl
counted-more counted first time all (d ∷ done) turn =
    counted-more counted d.turn.world.state d.time (all + counted first (d.time - time)) done turn

pub time-more : (time : ℕ) (done : List TimedTurn) (turn : TimedTurn) → time_after time (done ++ turn ∷ []) ≡ turn.time
time-more time [] turn = refl
time-more time (d ∷ done) turn = time-more d.time done turn

pub state-more : (first : State) (done : List TimedTurn) (turn : TimedTurn)
    → state_after first (done ++ turn ∷ []) ≡ turn.turn.world.state
state-more first [] turn = refl
state-more first (d ∷ done) turn = state-more d.turn.world.state done turn

pub ready-more : (done : List TimedTurn) (turn : TimedTurn) (t : ℕ)
    → ready_in (done ++ turn ∷ []) t ≡ ready_after t (ready_in done t) turn
ready-more done turn t = fold_push (ready_after t) no_spans done turn

-- ---- waits to run

-- a wait that hasn't begun is given up without a change
given-up : (waits : Spans) → is_some waits.since ≡ false → record waits { since = None } ≡ waits
given-up waits none = by waits.since refl none
  where
    by : (o : Option ℕ) → waits.since ≡ o → is_some o ≡ false → record waits { since = None } ≡ waits
    by None is e = ap (λ s. record waits { since = s }) (sym is)
    by (Some since) is e = cc

-- nor does it end
not-ended : (time : ℕ) (waits : Spans) → is_some waits.since ≡ false → span_ended time waits ≡ waits
not-ended time waits none = by waits.since refl none
  where
    by : (o : Option ℕ) → waits.since ≡ o → is_some o ≡ false → span_ended time waits ≡ waits
    by None is e = rw is refl
    by (Some since) is e = cc

-- a thread whose status stays goes on waiting
pub queued-same : (time : ℕ) (waits : Spans) (o : Option Status) → is_some waits.since ≡ option_any is_ready o
    → queued time waits o ≡ waits
queued-same time waits None is = given-up waits is
queued-same time waits (Some Ready) is = rw is refl
queued-same time waits (Some (Running p used)) is = not-ended time waits is
queued-same time waits (Some (Receiving p)) is = given-up waits is
queued-same time waits (Some (Queued p)) is = given-up waits is
queued-same time waits (Some (Served t)) is = given-up waits is
queued-same time waits (Some (Waiting m)) is = given-up waits is
queued-same time waits (Some Asleep) is = given-up waits is
queued-same time waits (Some Dead) is = given-up waits is

-- after a turn a thread waits if and only if it is Ready
queued-now : (time : ℕ) (waits : Spans) (o : Option Status)
    → is_some (queued time waits o).since ≡ option_any is_ready o
queued-now time waits (Some Ready) = by waits.since refl
  where
    by : (o : Option ℕ) → waits.since ≡ o → is_some (queued time waits (Some Ready)).since ≡ true
    by None is = rw is refl
    by (Some since) is = rw is refl
queued-now time waits (Some (Running p used)) = by waits.since refl
  where
    by : (o : Option ℕ) → waits.since ≡ o → is_some (span_ended time waits).since ≡ false
    by None is = rw is refl
    by (Some since) is = rw is refl
queued-now time waits None = refl
queued-now time waits (Some (Receiving p)) = refl
queued-now time waits (Some (Queued p)) = refl
queued-now time waits (Some (Served t)) = refl
queued-now time waits (Some (Waiting m)) = refl
queued-now time waits (Some Asleep) = refl
queued-now time waits (Some Dead) = refl

-- a turn adds at most one wait, which isn't longer than its time
pub record HaveFewMore (time : ℕ) (old new : Spans) : Type 0 where
  pub count : new.count ≤ old.count + 1
  pub total : new.total ≤ old.total + time

few-same : (time : ℕ) (old new : Spans) → new.count ≡ old.count → new.total ≡ old.total → HaveFewMore time old new
few-same time old new count total = record { count = omega (arith, count); total = omega (arith, total) }

queued-few : (time : ℕ) (waits : Spans) (o : Option Status) → HaveFewMore time waits (queued time waits o)
queued-few time waits (Some Ready) = by (is_some waits.since)
  where
    by : (b : Bool) → HaveFewMore time waits (if b then waits else span_begun time waits)
    by true = few-same time waits waits refl refl
    by false = few-same time waits (span_begun time waits) refl refl
queued-few time waits (Some (Running p used)) = by waits.since
  where
    by : (o : Option ℕ) → HaveFewMore time waits (span_ended time (record waits { since = o }))
    by None = few-same time waits _ refl refl
    by (Some since) = record { count = omega arith; total = omega arith }
queued-few time waits None = few-same time waits _ refl refl
queued-few time waits (Some (Receiving p)) = few-same time waits _ refl refl
queued-few time waits (Some (Queued p)) = few-same time waits _ refl refl
queued-few time waits (Some (Served t)) = few-same time waits _ refl refl
queued-few time waits (Some (Waiting m)) = few-same time waits _ refl refl
queued-few time waits (Some Asleep) = few-same time waits _ refl refl
queued-few time waits (Some Dead) = few-same time waits _ refl refl

-- one thread's waits, put into the table
pub one-queued : (time : ℕ) (s : State) (t : ℕ) (old : List Spans) (was now : Spans) → 1 ≤ t → t ≤ length old
    → was ≡ slice_index_or old (t - 1) was → now ≡ queued time was (status_of s.records t)
    → HaveQueuedOne time s t old (set old (t - 1) now)
one-queued time s t old was now low high at is = record { count = length-set old (t - 1) now; each = each }
  where
    each : (place : ℕ) (d : Spans) → place < length old → slice_index_or (set old (t - 1) now) place d ≡ (if t == place
        + 1 then queued time (slice_index_or old place d) (status_of s.records t) else slice_index_or old place d)
    each place d below = by (cases_eq t (place + 1))
      where
        by : (t ≡ place + 1) ⊎ (t ≢ place + 1) → slice_index_or (set old (t - 1) now) place d ≡ (if t == place + 1
            then queued time (slice_index_or old place d) (status_of s.records t) else slice_index_or old place d)
        by (inl same) =
            let here : place ≡ t - 1 = omega (arith, same) in
            let yes : (t == place + 1) ≡ true = eq-eqb t (place + 1) same in
            get_or-set_at old (t - 1) place now d here (omega (arith, low, high)) ∙ is
            ∙ ap (λ w. queued time w (status_of s.records t)) (at
            ∙ get_or_default old (t - 1) was d (omega (arith, low, high)) ∙ ap (λ i. slice_index_or old i d) (sym here))
            ∙ ap (λ b. if b then queued time (slice_index_or old place d)
            (status_of s.records t) else slice_index_or old place d) (sym yes)
        by (inr other) =
            let no : (t == place + 1) ≡ false = ne_eqb t (place + 1) other in
            get_or-set_other old (t - 1) place now d (λ same. other (omega (arith, same, low)))
            ∙ ap (λ b. if b then queued time (slice_index_or old place d)
            (status_of s.records t) else slice_index_or old place d) (sym no)

-- a new thread has had fewer waits than any
before-few : (answer : TurnAnswer) (t : ℕ) (waits : Spans)
    → ((waits_before answer t waits).count ≤ waits.count) × ((waits_before answer t waits).total ≤ waits.total)
before-few answer t waits = by (makes t answer)
  where
    by : (b : Bool)
        → ((if b then no_spans else waits).count ≤ waits.count) × ((if b then no_spans else waits).total ≤ waits.total)
    by true = (omega arith, omega arith)
    by false = (omega arith, omega arith)

-- ---- the tables' loops

-- the first so many threads' waits are those after a turn at this time that led to this state
pub record HavePassed (time : ℕ) (s : State) (place : ℕ) (old new : List Spans) : Type 0 where
  pub count : length new ≡ length old
  pub passed : (i : ℕ) (d : Spans) → i < place → i < length old
      → slice_index_or new i d ≡ queued time (slice_index_or old i d) (status_of s.records (i + 1))
  pub left : (i : ℕ) (d : Spans) → place ≤ i → i < length old → slice_index_or new i d ≡ slice_index_or old i d

pub none-passed : (time : ℕ) (s : State) (old : List Spans) → HavePassed time s 0 old old
none-passed time s old =
    record { count = refl; passed = λ i d below there. absurd (omega (arith, below)); left = λ i d past there. refl }

pub one-passed : (time : ℕ) (s : State) (place : ℕ) (old new next : List Spans) → HavePassed time s place old new
    → HaveQueuedOne time s (place + 1) new next → HavePassed time s (place + 1) old next
one-passed time s place old new next was one = record { count = one.count ∙ was.count; passed = passed; left = left }
  where
    passed : (i : ℕ) (d : Spans) → i < place + 1 → i < length old
        → slice_index_or next i d ≡ queued time (slice_index_or old i d) (status_of s.records (i + 1))
    passed i d below there = by (cases_eq (place + 1) (i + 1))
      where
        by : ((place + 1) ≡ i + 1) ⊎ ((place + 1) ≢ i + 1)
            → slice_index_or next i d ≡ queued time (slice_index_or old i d) (status_of s.records (i + 1))
        by (inl same) =
            let yes : (place + 1 == i + 1) ≡ true = eq-eqb (place + 1) (i + 1) same in
            one.each i d (omega (arith, there, was.count)) ∙ ap (λ b. if b then queued time (slice_index_or new i d)
            (status_of s.records (place + 1)) else slice_index_or new i d) yes
            ∙ ap (λ w. queued time w (status_of s.records (place + 1))) (was.left i d (omega (arith, same)) there)
            ∙ ap (λ t. queued time (slice_index_or old i d) (status_of s.records t)) same
        by (inr other) =
            let no : (place + 1 == i + 1) ≡ false = ne_eqb (place + 1) (i + 1) other in
            let before : i < place = lower (cases_lt i place) in
            one.each i d (omega (arith, there, was.count)) ∙ ap (λ b. if b then queued time (slice_index_or new i d)
            (status_of s.records (place + 1)) else slice_index_or new i d) no
            ∙ was.passed i d before there
          where
            lower : (i < place) ⊎ (place ≤ i) → i < place
            lower (inl h) = h
            lower (inr h) = absurd (other (omega (arith, h, below)))

    left : (i : ℕ) (d : Spans) → place + 1 ≤ i → i < length old → slice_index_or next i d ≡ slice_index_or old i d
    left i d past there =
        let no : (place + 1 == i + 1) ≡ false = ne_eqb (place + 1) (i + 1) (λ same. omega (arith, same, past)) in
        one.each i d (omega (arith, there, was.count)) ∙ ap (λ b.
        if b then queued time (slice_index_or new i d) (status_of s.records (place + 1)) else slice_index_or new i d) no
        ∙ was.left i d (omega (arith, past)) there

-- ---- a turn's waits

module _ (time : ℕ) (s next : State) (e : Event) (r : Reply) (old new : List Spans) where
  -- after a draw, and after a quantum has ended, at most one thread's waits change
  pub dispatch-none : IsDispatch e → Answers s e r next → AreWaiting s old → moved_thread r ≡ None
      → HaveQueued time (Answered e r) next old old
  dispatch-none dispatch answers waiting nobody = record { count = refl; each = each }
    where
      each : (place : ℕ) (d : Spans) → place < length old → slice_index_or old place d ≡ queued time
          (waits_before (Answered e r) (place + 1) (slice_index_or old place d)) (status_of next.records (place + 1))
      each place d below =
          let waits = slice_index_or old place d in
          let stays = status-kept s e dispatch r next answers (place + 1)
          (λ moved. let never : None ≡ Some (place + 1) = sym nobody ∙ moved in cc) in
          sym (ap (λ b. queued time (if b then no_spans else waits) (status_of next.records (place + 1)))
          (none-made s e dispatch r next answers Threads (place + 1))
          ∙ ap (queued time waits) stays
          ∙ queued-same time waits (status_of s.records (place + 1)) (waiting place d below))

  pub dispatch-one : (t : ℕ) → IsDispatch e → Answers s e r next → AreWaiting s old → moved_thread r ≡ Some t
      → HaveQueuedOne time next t old new → HaveQueued time (Answered e r) next old new
  dispatch-one t dispatch answers waiting moved one = record { count = one.count; each = each }
    where
      each : (place : ℕ) (d : Spans) → place < length old → slice_index_or new place d ≡ queued time
          (waits_before (Answered e r) (place + 1) (slice_index_or old place d)) (status_of next.records (place + 1))
      each place d below = one.each place d below ∙ by (cases_eq t (place + 1))
          ∙ sym (ap (λ b. queued time (if b then no_spans else waits) (status_of next.records (place + 1)))
          (none-made s e dispatch r next answers Threads (place + 1)))
        where
          waits : Spans
          waits = slice_index_or old place d

          by : (t ≡ place + 1) ⊎ (t ≢ place + 1)
              → (if t == place + 1 then queued time waits (status_of next.records t) else waits)
              ≡ queued time waits (status_of next.records (place + 1))
          by (inl same) = ap (λ b. if b then queued time waits (status_of next.records t) else waits)
              (eq-eqb t (place + 1) same) ∙ ap (λ u. queued time waits (status_of next.records u)) same
          by (inr other) =
              let stays = status-kept s e dispatch r next answers (place + 1)
              (λ also. other (some-injective t (place + 1) (sym moved ∙ also))) in
              ap (λ b. if b then queued time waits (status_of next.records t) else waits) (ne_eqb t (place + 1) other)
              ∙ sym (ap (queued time waits) stays
              ∙ queued-same time waits (status_of s.records (place + 1)) (waiting place d below))

  -- after any other turn each thread's status tells its waits
  pub all-queued : (mid : List Spans) → length mid ≡ length old → length new ≡ length mid
      → ((place : ℕ) (d : Spans) → place < length old
      → slice_index_or mid place d ≡ waits_before (Answered e r) (place + 1) (slice_index_or old place d))
      → ((place : ℕ) (d : Spans) → place < length mid
      → slice_index_or new place d ≡ queued time (slice_index_or mid place d) (status_of next.records (place + 1)))
      → HaveQueued time (Answered e r) next old new
  all-queued mid count then_count forgets queues = record { count = then_count ∙ count; each = each }
    where
      each : (place : ℕ) (d : Spans) → place < length old → slice_index_or new place d ≡ queued time
          (waits_before (Answered e r) (place + 1) (slice_index_or old place d)) (status_of next.records (place + 1))
      each place d below = queues place d (omega (arith, below, count))
          ∙ ap (λ w. queued time w (status_of next.records (place + 1))) (forgets place d below)

-- there is no thread beyond their count
absent : (records : List Record) (place : ℕ) → length records ≤ place → status_of records (place + 1) ≡ None
absent records place past = by (status_of records (place + 1)) refl
  where
    by : (o : Option Status) → status_of records (place + 1) ≡ o → status_of records (place + 1) ≡ None
    by None is = is
    by (Some status) is = absurd (omega (arith, past, numbered records (place + 1) status is))

-- the waits of a place beyond the threads stay
pub beyond-stays : (time : ℕ) (records : List Record) (place : ℕ) (waits : Spans) → length records ≤ place
    → is_some waits.since ≡ false → queued time waits (status_of records (place + 1)) ≡ waits
beyond-stays time records place waits past none = ap (queued time waits) (absent records place past)
    ∙ queued-same time waits None none

-- nobody waits beyond the threads that a turn leaves
pub none-beyond : (s next : State) (e : Event) (r : Reply) (old mid : List Spans) → Answers s e r next
    → AreWaiting s old → length mid ≡ length old
    → ((place : ℕ) (d : Spans) → place < length old
    → slice_index_or mid place d ≡ waits_before (Answered e r) (place + 1) (slice_index_or old place d))
    → NoneWaitsBeyond (length next.records) mid
none-beyond s next e r old mid answers waiting count forgets place d past below =
    ap (λ (w : Spans). is_some w.since) (forgets place d there) ∙ by (makes (place + 1) (Answered e r))
  where
    there : place < length old
    there = omega (arith, below, count)

    was : is_some (slice_index_or old place d).since ≡ false
    was = waiting place d there ∙ ap (option_any is_ready)
        (absent s.records place (omega (arith, past, count-grows s e r next answers Threads)))

    by : (b : Bool) → is_some (if b then no_spans else slice_index_or old place d).since ≡ false
    by true = refl
    by false = was

-- room for one more stays if threads' waits are forgotten
pub few-forgotten : (answer : TurnAnswer) (old mid : List Spans) → length mid ≡ length old → ((place : ℕ) (d : Spans)
    → place < length old → slice_index_or mid place d ≡ waits_before answer (place + 1) (slice_index_or old place d))
    → AreFew old → AreFew mid
few-forgotten answer old mid count forgets few place d below =
    let there : place < length old = omega (arith, below, count) in
    let was = few place d there in
    let before = before-few answer (place + 1) (slice_index_or old place d) in
    let is = forgets place d there in
    (omega (arith, ap (λ (w : Spans). w.count) is, before.0, was.0), omega (arith, ap (λ (w : Spans). w.total) is, before.1, was.1))

-- so many turns leave room for one more wait of each thread
pub few-waits : (done : List TimedTurn) (n : ℕ) (s : State) (waits : List Spans) → n < 2 ^ 24
    → AreReadyFor done n s waits → AreFew waits
few-waits done n s waits room are place d below = let is = are.each place d below in
    (omega (arith, is.count, room), omega (arith, is.total, room))

pub few-at : (waits : List Spans) (t : ℕ) → AreFew waits → HasFew waits t
few-at waits t few d low high = few (t - 1) d (omega (arith, low, high))

pub waits-more : (done : List TimedTurn) (n : ℕ) (s next : State) (turn : TimedTurn) (time : ℕ) (answer : TurnAnswer)
    (old new : List Spans) → turn.time ≡ time → time < 2 ^ 32 → turn.turn.answer ≡ answer → turn.turn.world.state ≡ next
    → HaveQueued time answer next old new → AreReadyFor done n s old → AreReadyFor (done ++ turn ∷ []) (n + 1) next new
waits-more done n s next turn time answer old new at early answered led queues were = record { each = each; now = now }
  where
    now : AreWaiting next new
    now place d below =
        let there : place < length old = omega (arith, below, queues.count) in
        ap (λ (w : Spans). is_some w.since) (queues.each place d there) ∙ queued-now time
        (waits_before answer (place + 1) (slice_index_or old place d)) (status_of next.records (place + 1))

    each : (place : ℕ) (d : Spans) → place < length new
        → IsReadyFor (done ++ turn ∷ []) (n + 1) (place + 1) (slice_index_or new place d)
    each place d below =
        let there : place < length old = omega (arith, below, queues.count) in
        let was = were.each place d there in
        let t = place + 1 in
        let then_at = sym at in
        let then_answered = sym answered in
        let then_led = sym led in
        let waits = slice_index_or old place d in
        let is = queues.each place d there in
        let few = queued-few time (waits_before answer t waits) (status_of next.records t) in
        let before = before-few answer t waits in
        let counts : (slice_index_or new place d).count ≡ (queued time (waits_before answer t waits)
        (status_of next.records t)).count = ap (λ (w : Spans). w.count) is in
        let totals : (slice_index_or new place d).total ≡ (queued time (waits_before answer t waits)
        (status_of next.records t)).total = ap (λ (w : Spans). w.total) is in
        record {
          exact = is ∙ (λ i. queued (then_at i) (waits_before (then_answered i) t (was.exact i))
              (status_of (then_led i).records t)) ∙ sym (ready-more done turn t);
          count = omega (arith, counts, few.count, before.0, was.count);
          total = omega (arith, totals, few.total, before.1, was.total, early);
        }

-- ---- what is due

-- what is due when each base unit is due more
pub owed-more : (rate more parts : ℕ) (d : Owing) → IsOwed rate parts d → parts + d.value * more < 2 ^ 122
    → IsOwed (rate + more) (parts + d.value * more) d
owed-more rate more parts d is few =
    let further : rate + more - d.since ≡ (rate - d.since) + more = omega (arith, is.since) in
    let product : d.value * (rate + more - d.since) ≡ d.value * (rate - d.since) + d.value * more =
    ap (λ k. d.value * k) further ∙ mul-add d.value (rate - d.since) more in
    record { since = omega (arith, is.since); exact = omega (arith, product, is.exact); few = few }

-- what is due now, whatever the value
pub owed-now : (rate parts value : ℕ) → parts < 2 ^ 122
    → IsOwed rate parts (record { value = value; since = rate; parts = parts })
owed-now rate parts value few =
    let none : rate - rate ≡ 0 = omega arith in
    let product : value * (rate - rate) ≡ 0 = ap (λ k. value * k) none ∙ omega arith in
    record { since = omega arith; exact = omega (arith, product); few = few }

-- ---- one that is due nothing

module _ (rate number : ℕ) (parts : ℕ → ℕ) (dues : List Owing) (owed : AreOwed rate parts dues) where
  pub forget-none : ((place : ℕ) → place < length dues → number ≢ place + 1)
      → AreOwed rate (forgotten number parts) dues
  forget-none other place d below =
      let no : (number == place + 1) ≡ false = ne_eqb number (place + 1) (other place below) in
      subst (λ k. IsOwed rate k (slice_index_or dues place d)) (ap (λ b. if b then 0 else parts (place + 1)) (sym no))
      (owed place d below)

  pub forget-one : (value : ℕ) → 1 ≤ number → AreOwed rate (forgotten number parts)
      (set dues (number - 1) (record { value = value; since = rate; parts = 0 }))
  forget-one value low place d below = by (cases_eq number (place + 1))
    where
      none : Owing
      none = record { value = value; since = rate; parts = 0 }

      there : place < length dues
      there = omega (arith, below, length-set dues (number - 1) none)

      by : (number ≡ place + 1) ⊎ (number ≢ place + 1)
          → IsOwed rate (forgotten number parts (place + 1)) (slice_index_or (set dues (number - 1) none) place d)
      by (inl same) =
          let here : place ≡ number - 1 = omega (arith, same) in
          let yes : (number == place + 1) ≡ true = eq-eqb number (place + 1) same in
          let put : slice_index_or (set dues (number - 1) none) place d ≡ none =
          get_or-set_at dues (number - 1) place none d here (omega (arith, here, there)) in
          subst (λ x. IsOwed rate (forgotten number parts (place + 1)) x) (sym put) (subst (λ k. IsOwed rate k none)
          (ap (λ b. if b then 0 else parts (place + 1)) (sym yes)) (owed-now rate 0 value (omega arith)))
      by (inr other) =
          let no : (number == place + 1) ≡ false = ne_eqb number (place + 1) other in
          let stays : slice_index_or (set dues (number - 1) none) place d ≡ slice_index_or dues place d =
          get_or-set_other dues (number - 1) place none d (λ same. other (omega (arith, same, low))) in
          subst (λ x. IsOwed rate (forgotten number parts (place + 1)) x) (sym stays) (subst (λ k. IsOwed rate k
          (slice_index_or dues place d)) (ap (λ b. if b then 0 else parts (place + 1)) (sym no)) (owed place d there))

-- it keeps its value
pub forget-value : (place rate : ℕ) (values : ℕ → ℕ) (dues : List Owing) (was : Owing) → place < length dues
    → was ≡ slice_index_or dues place was → HaveValues values dues
    → HaveValues values (set dues place (record { value = was.value; since = rate; parts = 0 }))
forget-value place rate values dues was there is have i d below = by (cases_eq i place)
  where
    now : Owing
    now = record { value = was.value; since = rate; parts = 0 }

    by : (i ≡ place) ⊎ (i ≢ place) → (slice_index_or (set dues place now) i d).value ≡ values (i + 1)
    by (inl same) = ap (λ (x : Owing). x.value) (get_or-set_at dues place i now d same there)
        ∙ ap (λ (x : Owing). x.value) is ∙ have place was there ∙ ap (λ k. values (k + 1)) (sym same)
    by (inr other) = ap (λ (x : Owing). x.value) (get_or-set_other dues place i now d other)
        ∙ have i d (omega (arith, below, length-set dues place now))

-- ---- new values

-- the first so many have their new values, the others their old ones, and what is due stays
pub record HaveTaken (values : ℕ → ℕ) (place rate : ℕ) (old new : List Owing) : Type 0 where
  pub count : length new ≡ length old
  pub owed : (parts : ℕ → ℕ) → AreOwed rate parts old → AreOwed rate parts new
  pub taken : (i : ℕ) (d : Owing) → i < place → i < length old → (slice_index_or new i d).value ≡ values (i + 1)
  pub left : (i : ℕ) (d : Owing) → place ≤ i → i < length old
      → (slice_index_or new i d).value ≡ (slice_index_or old i d).value

pub none-taken : (values : ℕ → ℕ) (rate : ℕ) (old : List Owing) → HaveTaken values 0 rate old old
none-taken values rate old =
    record { count = refl; owed = λ parts owed. owed; taken = λ i d below there. absurd (omega (arith, below)); left = λ i d past there. refl }

pub one-taken : (values : ℕ → ℕ) (place rate value parts_now : ℕ) (old mid : List Owing) (was : Owing) → place
    < length mid → was ≡ slice_index_or mid place was → ((parts : ℕ) → IsOwed rate parts was → parts_now ≡ parts)
    → value ≡ values (place + 1) → HaveTaken values place rate old mid
    → HaveTaken values (place + 1) rate old (set mid place (record { value = value; since = rate; parts = parts_now }))
one-taken values place rate value parts_now old mid was below is exact own have =
    record { count = length-set mid place now ∙ have.count; owed = owed; taken = taken; left = left }
  where
    now : Owing
    now = record { value = value; since = rate; parts = parts_now }

    owed : (parts : ℕ → ℕ) → AreOwed rate parts old → AreOwed rate parts (set mid place now)
    owed parts before i d there = by (cases_eq i place)
      where
        within : i < length mid
        within = omega (arith, there, length-set mid place now)

        by : (i ≡ place) ⊎ (i ≢ place) → IsOwed rate (parts (i + 1)) (slice_index_or (set mid place now) i d)
        by (inl same) =
            let here : IsOwed rate (parts (place + 1)) was =
            subst (λ x. IsOwed rate (parts (place + 1)) x) (sym is) (have.owed parts before place was below) in
            let sum : parts_now ≡ parts (place + 1) = exact (parts (place + 1)) here in
            subst (λ x. IsOwed rate (parts (i + 1)) x) (sym (get_or-set_at mid place i now d same below))
            (subst (λ k. IsOwed rate (parts (k + 1)) now) (sym same)
            (subst (λ k. IsOwed rate k now) sum (owed-now rate parts_now value (omega (arith, sum, here.few)))))
        by (inr other) = subst (λ x. IsOwed rate (parts (i + 1)) x) (sym (get_or-set_other mid place i now d other))
            (have.owed parts before i d within)

    taken : (i : ℕ) (d : Owing) → i < place + 1 → i < length old
        → (slice_index_or (set mid place now) i d).value ≡ values (i + 1)
    taken i d few there = by (cases_eq i place)
      where
        by : (i ≡ place) ⊎ (i ≢ place) → (slice_index_or (set mid place now) i d).value ≡ values (i + 1)
        by (inl same) = ap (λ (x : Owing). x.value) (get_or-set_at mid place i now d same below) ∙ own
            ∙ ap (λ k. values (k + 1)) (sym same)
        by (inr other) =
            let before : i < place = lower (cases_lt i place) in
            ap (λ (x : Owing). x.value) (get_or-set_other mid place i now d other) ∙ have.taken i d before there
          where
            lower : (i < place) ⊎ (place ≤ i) → i < place
            lower (inl h) = h
            lower (inr h) = absurd (other (omega (arith, h, few)))

    left : (i : ℕ) (d : Owing) → place + 1 ≤ i → i < length old
        → (slice_index_or (set mid place now) i d).value ≡ (slice_index_or old i d).value
    left i d past there =
        ap (λ (x : Owing). x.value) (get_or-set_other mid place i now d (λ same. omega (arith, same, past)))
        ∙ have.left i d (omega (arith, past)) there

-- all have their new values, if the others' were right before
pub all-taken : (values : ℕ → ℕ) (place rate count : ℕ) (old new : List Owing) → HaveTaken values place rate old new
    → ((i : ℕ) → place ≤ i → i < length old → count ≤ i)
    → ((i : ℕ) (d : Owing) → i < length old → count ≤ i → (slice_index_or old i d).value ≡ values (i + 1))
    → HaveValues values new
all-taken values place rate count old new have past few i d below = by (cases_lt i place)
  where
    there : i < length old
    there = omega (arith, below, have.count)

    by : (i < place) ⊎ (place ≤ i) → (slice_index_or new i d).value ≡ values (i + 1)
    by (inl before) = have.taken i d before there
    by (inr after) = have.left i d after there ∙ few i d there (past i after there)

-- ---- rates

-- the ticks that count are no more
shared-few : (whole ticks : ℕ) → shared_ticks whole ticks ≤ ticks
shared-few whole ticks = by (whole == 0)
  where
    by : (b : Bool) → (if b then 0 else ticks) ≤ ticks
    by true = omega arith
    by false = omega arith

-- a turn's rate, times the whole, is little more than the parts of its ticks
rate-within : (whole ticks : ℕ) → ticks < 2 ^ 32 → whole < 2 ^ 96 → whole * rate_in whole ticks ≤ 2 ^ 97
rate-within whole ticks few small = by (whole == 0) refl
  where
    by : (b : Bool) → (whole == 0) ≡ b → whole * (if b then 0 else (ticks * tick_parts + (whole - 1)) / whole) ≤ 2 ^ 97
    by true none = omega arith
    by false some = omega (arith, mul-div-le (ticks * tick_parts + (whole - 1)) whole, few, small)

rate-few : (whole ticks : ℕ) → ticks < 2 ^ 32 → whole < 2 ^ 96 → rate_in whole ticks ≤ 2 ^ 97
rate-few whole ticks few small = by (whole == 0) refl
  where
    by : (b : Bool) → (whole == 0) ≡ b → (if b then 0 else (ticks * tick_parts + (whole - 1)) / whole) ≤ 2 ^ 97
    by true none = omega arith
    by false some = omega (arith, div-le_self (ticks * tick_parts + (whole - 1)) whole, few, small)

part-few : (sharers : Sharers) (s : State) (number ticks : ℕ) → IsSound s → ticks < 2 ^ 32
    → part_in sharers s number ticks ≤ 2 ^ 97
part-few sharers s number ticks sound few =
    omega (arith, mul-le-mul_right (rate_in (whole_in sharers s) ticks) (value-within sharers s sound number), rate-within (whole_in sharers s) ticks few (whole-small sharers s sound))

-- ---- one place

pub owed-at : (sharers : Sharers) (first s : State) (done : List TimedTurn) (n : ℕ) (table : DueTable) (number : ℕ)
    (was : Owing) → AreDue sharers first done n s table → 1 ≤ number → number ≤ length table.places.items
    → was ≡ slice_index_or table.places.items (number - 1) was
    → IsOwed table.rate (due_to sharers first done number) was × (due_to sharers first done number ≤ n * 2 ^ 97)
owed-at sharers first s done n table number was are low high is =
    let e : number - 1 + 1 ≡ number = omega (arith, low) in
    let one = are.each (number - 1) was (omega (arith, low, high)) in
    (subst (λ k. IsOwed table.rate (due_to sharers first done k) was) e (subst (λ x. IsOwed table.rate (due_to sharers first done (number - 1 + 1)) x) (sym is) one.owed), subst (λ k. due_to sharers first done k ≤ n * 2 ^ 97) e one.few)

-- those without a number have no value, before the turn and after it
pub few-values : (sharers : Sharers) (first s next : State) (done : List TimedTurn) (n : ℕ) (e : Event) (r : Reply)
    (old new : DueTable) → AreDue sharers first done n s old → Answers s e r next → IsSound next
    → new.sharers ≡ old.sharers → new.places.items ≡ old.places.items
    → (place : ℕ) (d : Owing) → place < length new.places.items → count_in new.sharers next ≤ place
    → (slice_index_or new.places.items place d).value ≡ value_in new.sharers next (place + 1)
few-values sharers first s next done n e r old new was answers sound same items place d below past =
    let is : new.sharers ≡ sharers = same ∙ was.sharers_are in
    let few : count_in sharers next ≤ place = subst (λ x. count_in x next ≤ place) is past in
    ap (λ (ds : List Owing). (slice_index_or ds place d).value) items
    ∙ (was.each place d (omega (arith, below, ap length items))).value
    ∙ value-none sharers s was.sound (place + 1) (omega (arith, count-grows s e r next answers sharers, few)) ∙ sym
    (value-none sharers next sound (place + 1) (omega (arith, few))) ∙ ap (λ x. value_in x next (place + 1)) (sym is)

-- ---- a turn more

-- so many ticks have passed for the table, up to this time
pub record HasPassed (ticks : ℕ) (old : DueTable) (now : ℕ) (new : DueTable) : Type 0 where
  pub sharers_are : new.sharers ≡ old.sharers
  pub time : new.time ≡ now
  pub rate : new.rate ≡ old.rate + rate_in old.whole ticks
  pub shared : new.shared_time ≡ old.shared_time + shared_ticks old.whole ticks
  pub count : length new.places.items ≡ length old.places.items

module _ (sharers : Sharers) (first s : State) (done : List TimedTurn) (n : ℕ) (ticks : ℕ) (old : DueTable)
    (room : n < 2 ^ 24) (short : ticks < 2 ^ 32) (was : AreDue sharers first done n s old) where
  -- the parts due after the turn, if it makes none of them
  abbrev pub then_due : ℕ → ℕ
  then_due k = due_to sharers first done k + part_in sharers s k ticks

  part-more : (k : ℕ) → part_in sharers s k ticks ≤ 2 ^ 97
  part-more k = part-few sharers s k ticks was.sound short

  -- each of them is due so much at the new rate
  pub owed-then : AreOwed (old.rate + rate_in old.whole ticks) then_due old.places.items
  owed-then place d below =
      let w = was.each place d below in
      let due = slice_index_or old.places.items place d in
      let rate : rate_in old.whole ticks ≡ rate_in (whole_in sharers s) ticks = ap (λ k. rate_in k ticks) was.whole in
      let product : due.value * rate_in old.whole ticks ≡ part_in sharers s (place + 1) ticks =
      ap (λ k. due.value * k) rate ∙ ap (λ v. v * rate_in (whole_in sharers s) ticks) w.value in
      let more = owed-more old.rate (rate_in old.whole ticks) (due_to sharers first done (place + 1)) due w.owed
      (omega (arith, product, part-more (place + 1), w.few, room)) in
      subst
      (λ k. IsOwed (old.rate + rate_in old.whole ticks) (due_to sharers first done (place + 1) + k) due) product more

  module _ (next : State) (turn : TimedTurn) (e : Event) (r : Reply) (new : DueTable)
      (lasted : turn.time - old.time ≡ ticks) (answered : turn.turn.answer ≡ Answered e r)
      (led : turn.turn.world.state ≡ next) (sound : IsSound next) (passed : HasPassed ticks old turn.time new) where
    lasted_since : turn.time - time_after 0 done ≡ ticks
    lasted_since = ap (λ k. turn.time - k) (sym was.time) ∙ lasted

    due-now : (k : ℕ)
        → due_to sharers first (done ++ turn ∷ []) k ≡ (if makes_one sharers k (Answered e r) then 0 else then_due k)
    due-now k =
        let part : State → ℕ → ℕ = λ state lasted. part_in sharers state k lasted in
        due-more part (makes_one sharers k) first 0 0 done turn ∙ (λ i.
        due_after part (makes_one sharers k) (was.state i) (lasted_since i) (due_to sharers first done k) (answered i))

    few-now : (place : ℕ) (d : Owing) → place < length old.places.items
        → due_to sharers first (done ++ turn ∷ []) (place + 1) ≤ (n + 1) * 2 ^ 97
    few-now place d below = by (makes_one sharers (place + 1) (Answered e r)) refl
      where
        by : (b : Bool) → makes_one sharers (place + 1) (Answered e r) ≡ b
            → due_to sharers first (done ++ turn ∷ []) (place + 1) ≤ (n + 1) * 2 ^ 97
        by true is = omega (arith, due-now (place + 1) ∙ ap (λ b. if b then 0 else then_due (place + 1)) is)
        by false is = omega (arith, due-now (place + 1) ∙ ap (λ b. if b then 0 else then_due (place + 1)) is, part-more (place + 1), (was.each place d below).few)

    rate-is : rate_in old.whole ticks ≡ rate_in (whole_in sharers s) ticks
    rate-is = ap (λ k. rate_in k ticks) was.whole

    shared-now : new.shared_time ≡ time_shared sharers first (done ++ turn ∷ [])
    shared-now =
        let counted : State → ℕ → ℕ = λ state lasted. shared_ticks (whole_in sharers state) lasted in
        passed.shared ∙ ap (λ k. k + shared_ticks old.whole ticks) was.shared
        ∙ ap (λ k. time_shared sharers first done + shared_ticks k ticks) was.whole
        ∙ sym (counted-more counted first 0 0 done turn
        ∙ (λ i. time_shared sharers first done + counted (was.state i) (lasted_since i)))

    -- the table after the turn, from the values in it
    due-with : new.whole ≡ whole_in sharers next → HaveValues (value_in sharers next) new.places.items
        → AreOwed new.rate (due_to sharers first (done ++ turn ∷ [])) new.places.items
        → AreDue sharers first (done ++ turn ∷ []) (n + 1) next new
    due-with whole values owed = record {
      sharers_are = passed.sharers_are ∙ was.sharers_are;
      state = state-more first done turn ∙ led;
      sound = sound;
      time = passed.time ∙ sym (time-more 0 done turn);
      shared = shared-now;
      short = omega (arith, passed.shared, was.short, shared-few old.whole ticks, short);
      whole = whole;
      rate = omega (arith, passed.rate, was.rate, rate-is, rate-few (whole_in sharers s) ticks short (whole-small sharers s was.sound));
      each = λ place d below.
          record { value = values place d below; owed = owed place d below; few = few-now place d (omega (arith, below, passed.count)) };
    }

    -- after a draw, and after a quantum has ended, values stay
    pub dues-kept : IsDispatch e → Answers s e r next → new.places.items ≡ old.places.items → new.whole ≡ old.whole
        → AreDue sharers first (done ++ turn ∷ []) (n + 1) next new
    dues-kept dispatch answers same whole =
        due-with (whole ∙ was.whole ∙ sym (whole-kept s e dispatch r next answers sharers)) values owed
      where
        none : (k : ℕ) → then_due k ≡ due_to sharers first (done ++ turn ∷ []) k
        none k =
            sym (due-now k ∙ ap (λ b. if b then 0 else then_due k) (none-made s e dispatch r next answers sharers k))

        values : HaveValues (value_in sharers next) new.places.items
        values =
            subst (λ (ds : List Owing). HaveValues (value_in sharers next) ds) (sym same)
            (λ place d below. (was.each place d below).value
            ∙ sym (value-kept s e dispatch r next answers sharers (place + 1)))

        owed : AreOwed new.rate (due_to sharers first (done ++ turn ∷ [])) new.places.items
        owed place d below =
            let there : place < length old.places.items = omega (arith, below, ap length same) in
            subst (λ (ds : List Owing). IsOwed new.rate (due_to sharers first (done ++ turn ∷ []) (place + 1))
            (slice_index_or ds place d)) (sym same)
            (subst (λ k. IsOwed k (due_to sharers first (done ++ turn ∷ []) (place + 1))
            (slice_index_or old.places.items place d)) (sym passed.rate)
            (subst (λ k. IsOwed (old.rate + rate_in old.whole ticks) k (slice_index_or old.places.items place d))
            (none (place + 1)) (owed-then place d there)))

    -- after any other turn they are taken over anew
    pub dues-changed : new.whole ≡ whole_in sharers next → HaveValues (value_in sharers next) new.places.items
        → AreOwed new.rate (parts_before sharers (Answered e r) then_due) new.places.items
        → AreDue sharers first (done ++ turn ∷ []) (n + 1) next new
    dues-changed whole values owed =
        due-with whole values (λ place d below. subst (λ k. IsOwed new.rate k (slice_index_or new.places.items place d))
        (sym (due-now (place + 1))) (owed place d below))
