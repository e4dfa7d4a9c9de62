-- One more of a program's turns in time.
use Rattle.lot_playback.proofs.Common.{ActorTurn, Answered, Answers, AreAlarms, AreLater, AreNumbered, Bool, Command, Due, Ended, Err, Event, FoundNodes, HasDues, HasFollowed, HasLayoutFor, HasRoomFor, IfOk, IsErr, IsFollowed, IsOpened, IsWithinBounds, List, Moment, None, Ok, Option, Program, Reply, Result, Seen, Some, TimedTurn, Timekeeper, TurnAnswer, World, actor_event, actor_turns, after_turn, alarms-later, alarms_after, alarms_in, ap, append-nil, append_assoc, arith, clocks_after, commands_made, console_turn, count-console, count-processor, count_by, drop, drop-append_seam, due_first, false, if◌then◌else◌, is_idle_draw, is_refusal, length, length-append, length-drop, length-map, map, map-append, moment_after, moment_after_all, moment_in, ne_eqb, next_due, next_name, next_turns, opening, opening_moment, processor_turn, refl, refusals_in, resolved, step, subst, suc, sum_by_push, sym, system_run-one_more, system_turn, take, take-append_seam, timed_turns, total_of, true, turn-grows, turn_due, turns-few, turns_done, turns_from, world_of, zero, ℕ, [], ◌++◌, ◌+◌, ◌-◌, ◌<◌, ◌==◌, ◌^◌, ◌||◌, ◌∙◌, ◌∷◌, ◌≡◌, ◌≤◌}
use Rattle.lot_simulation.specs.Report.{count_in}
use Rattle.lot_simulation.specs.Timed.{timed_room}
use Rattle.lot_machine.specs.declared.event.Event.TheVariants as event
use Rattle.lot_playback.proofs.AlarmFacts.{none-asleep}

-- ---- turns from a moment on

pub next-made : (program : Program) (room : ℕ) (m : Moment) (due : Due) → next_due program m ≡ Some due
    → turns_from program (suc room) m ≡ turn_due program m due
    ∷ turns_from program room (moment_after m (turn_due program m due))
next-made program room m due is = ap (due_first program m (λ done. turns_from program room (moment_after m done))) is

pub none-made : (program : Program) (room : ℕ) (m : Moment) → next_due program m ≡ None → turns_from program room m ≡ []
none-made program zero m is = refl
none-made program (suc room) m is = ap (due_first program m (λ done. turns_from program room (moment_after m done))) is

pub moment-one_more : (m : Moment) (turns : List TimedTurn) (turn : TimedTurn)
    → moment_after_all m (turns ++ turn ∷ []) ≡ moment_after (moment_after_all m turns) turn
moment-one_more m [] turn = refl
moment-one_more m (t ∷ turns) turn = moment-one_more (moment_after m t) turns turn

-- a turn of the console takes the first command that is left
commands-turn : (program : Program) (w : World) (actor : ℕ) → length (system_turn program w actor).world.commands
    ≡ (if actor == 0 then length w.commands - 1 else length w.commands)
commands-turn program w zero = from w.commands refl
  where
    from : (cs : List Command) → w.commands ≡ cs
        → length (console_turn program w cs).world.commands ≡ length w.commands - 1
    from [] none = rw none refl
    from (c ∷ cs) some = let more : length w.commands ≡ suc (length cs) = ap length some in omega (arith, more)
commands-turn program w (suc n) =
    let no : (suc n == 0) ≡ false = ne_eqb (suc n) 0 (λ e. omega arith) in
    rw no refl

drop-one_more : {A : Type 0} (xs : List A) (k : ℕ) → drop (k + 1) xs ≡ drop 1 (drop k xs)
drop-one_more xs k = let e : k + 1 ≡ suc k = omega arith in ap (λ n. drop n xs) e ∙ from xs k
  where
    from : {A : Type 0} (xs : List A) (k : ℕ) → drop (suc k) xs ≡ drop 1 (drop k xs)
    from [] zero = refl
    from [] (suc k) = refl
    from (x ∷ xs) zero = refl
    from (x ∷ xs) (suc k) = from xs k

-- one turn's refusal more is counted
pub refusals-more : (done : List TimedTurn) (turn : TimedTurn) (e : Event) (r : Reply) → turn.turn.answer ≡ Answered e r
    → total_of refusals_in (actor_turns (done ++ turn ∷ [])) ≡ total_of refusals_in (actor_turns done) + refusals_in r
refusals-more done turn e r answered =
    let counted : ActorTurn → ℕ = λ t. count_in refusals_in t.answer in
    let beside : TimedTurn → ActorTurn = λ t. record { actor = t.actor; answer = t.turn.answer } in
    ap (λ ts. total_of refusals_in ts) (map-append beside done (turn ∷ []))
    ∙ sum_by_push counted (actor_turns done) (beside turn)
    ∙ ap (λ (a : TurnAnswer). total_of refusals_in (actor_turns done) + count_in refusals_in a) answered

-- a turn's answer is the machine's, in the state before it
pub turn-answers : (program : Program) (w : World) (actor : ℕ) (e : Event) (r : Reply)
    → (system_turn program w actor).answer ≡ Answered e r
    → Answers w.state e r (system_turn program w actor).world.state
turn-answers program w actor e r is = by (actor == 0) is
  where
    event_or : TurnAnswer → Event
    event_or (Answered x y) = x
    event_or Ended = e

    reply_or : TurnAnswer → Reply
    reply_or (Answered x y) = y
    reply_or Ended = r

    made : (x : Event) → Answered x (step w.state x).reply ≡ Answered e r → Answers w.state e r (step w.state x).state
    made x same = ap (step w.state) (sym (ap event_or same))
        ∙ ap (λ y. record { state = (step w.state x).state; reply = y }) (ap reply_or same)

    from : (cs : List Command) → (console_turn program w cs).answer ≡ Answered e r
        → Answers w.state e r (console_turn program w cs).world.state
    from [] same = cc
    from (c ∷ cs) same = made (event.Command (resolved w.tickets (next_name w) c)) same

    by : (b : Bool)
        → (if b then console_turn program w w.commands else processor_turn w actor (actor_event program w actor)).answer
        ≡ Answered e r
        → Answers w.state e r (if b then console_turn program w w.commands
        else processor_turn w actor (actor_event program w actor)).world.state
    by true same = from w.commands same
    by false same = made (actor_event program w actor) same

-- ---- a system that is followed

module _ (program : Program) (seen : Seen) (timekeeper : Timekeeper) (is : IsFollowed program seen timekeeper) where
  abbrev done : List TimedTurn
  done = turns_done program seen

  abbrev now : Moment
  now = moment_in seen timekeeper

  done-length : length done ≡ length seen.history
  done-length = sym (ap length is.history ∙ length-map done (λ (turn : TimedTurn). turn.actor))

  -- it has made no more turns than there is room for
  pub within-room : length seen.history ≤ timed_room
  within-room =
      let all = turns-few program timed_room (opening_moment program) in
      let parts : length (timed_turns program) ≡ length done
      + length (turns_from program (timed_room - length seen.history) now) = ap length is.rest
      ∙ length-append done (turns_from program (timed_room - length seen.history) now) in
      omega (arith, all, parts, done-length)

  -- what is made next follows what was made
  next-is : (rest : List TimedTurn) → timed_turns program ≡ done ++ rest → next_turns program seen ≡ take 1 rest
  next-is rest e =
      let seam : drop (length seen.history) (done ++ rest) ≡ rest = ap (λ n. drop n (done ++ rest)) (sym done-length)
      ∙ drop-append_seam done rest in
      ap (λ ts. take 1 (drop (length seen.history) ts)) e ∙ ap (take 1) seam

  -- no turn is next if there is no room
  pub full-next : timed_room ≤ length seen.history → turns_from program (timed_room - length seen.history) now ≡ []
  full-next full =
      let k : timed_room - length seen.history ≡ 0 = omega arith in
      ap (λ n. turns_from program n now) k

  -- if nothing is left, all turns are made, and none is next
  pub none-next : turns_from program (timed_room - length seen.history) now ≡ [] → next_turns program seen ≡ []
  none-next none = next-is (turns_from program (timed_room - length seen.history) now) is.rest ∙ ap (take 1) none

  -- if none is next, all turns are made
  pub all-done : next_turns program seen ≡ [] → done ≡ timed_turns program
  all-done none = from (turns_from program (timed_room - length seen.history) now) is.rest
    where
      from : (rest : List TimedTurn) → timed_turns program ≡ done ++ rest → done ≡ timed_turns program
      from [] e = sym (e ∙ append-nil done)
      from (t ∷ ts) e = absurd (let is : t ∷ [] ≡ [] = sym (next-is (t ∷ ts) e) ∙ none in cc)

  -- a turn that is due is the next
  module _ (due : Due) (first : next_due program now ≡ Some due) (room : length seen.history < timed_room) where
    abbrev turn : TimedTurn
    turn = turn_due program now due

    abbrev others : List TimedTurn
    others = turns_from program (timed_room - (length seen.history + 1)) (moment_after now turn)

    rest-is : timed_turns program ≡ done ++ (turn ∷ others)
    rest-is =
        let k : timed_room - length seen.history ≡ suc (timed_room - (length seen.history + 1)) = omega arith in
        is.rest ∙ ap (λ n. done ++ turns_from program n now) k
        ∙ ap (λ ts. done ++ ts) (next-made program (timed_room - (length seen.history + 1)) now due first)

    pub one-next : next_turns program seen ≡ turn ∷ []
    one-next = next-is (turn ∷ others) rest-is

    rest-more : timed_turns program ≡ (done ++ turn ∷ []) ++ others
    rest-more = rest-is ∙ sym (append_assoc done (turn ∷ []) others)

    abbrev after : Seen
    after = after_turn seen due.actor

    longer : length after.history ≡ length seen.history + 1
    longer = length-append seen.history (due.actor ∷ [])

    done-more : turns_done program after ≡ done ++ turn ∷ []
    done-more =
        let n : length after.history ≡ length (done ++ turn ∷ []) =
        omega (arith, longer, length-append done (turn ∷ []), done-length) in
        ap (λ k. take k (timed_turns program)) n ∙ ap (take (length (done ++ turn ∷ []))) rest-more
        ∙ take-append_seam (done ++ turn ∷ []) others

    pub world-more : world_of after ≡ turn.turn.world
    world-more = system_run-one_more seen.setting.program seen.history due.actor
        ∙ ap (λ (p : Program). (system_turn p (world_of seen) due.actor).world) is.program_is

    times-more : drop (commands_made after) seen.setting.program.times
        ≡ (if due.actor == 0 then drop 1 now.times else now.times)
    times-more = from due.actor
      where
        from : (a : ℕ) → drop (count_by (λ actor. actor == 0) (seen.history ++ a ∷ [])) seen.setting.program.times
            ≡ (if a == 0 then drop 1 (drop (commands_made seen) seen.setting.program.times)
            else drop (commands_made seen) seen.setting.program.times)
        from zero = ap (λ n. drop n seen.setting.program.times) (count-console seen.history)
            ∙ drop-one_more seen.setting.program.times (commands_made seen)
        from (suc a) =
            let no : (suc a == 0) ≡ false = ne_eqb (suc a) 0 (λ e. omega arith) in
            rw no (ap (λ n. drop n seen.setting.program.times) (count-processor seen.history (suc a) (omega arith)))

    left-more : length (world_of after).commands ≡ length (drop (commands_made after) seen.setting.program.times)
    left-more = ap (λ (w : World). length w.commands) world-more ∙ commands-turn program (world_of seen) due.actor
        ∙ from (due.actor == 0) ∙ ap length (sym times-more)
      where
        from : (b : Bool) → (if b then length (world_of seen).commands - 1 else length (world_of seen).commands)
            ≡ length (if b then drop 1 now.times else now.times)
        from true = omega (arith, is.left, length-drop 1 now.times)
        from false = is.left

    module _ (e : Event) (r : Reply)
        (answer : (system_turn seen.setting.program (world_of seen) due.actor).answer ≡ Answered e r)
        (next : Timekeeper) (time : next.clocks.time ≡ due.time)
        (clocks : next.clocks.processors.items ≡ clocks_after (world_of after).state timekeeper.clocks.processors.items
        (record { time = due.time; actor = due.actor }) (is_idle_draw (Answered e r)))
        (alarms : alarms_in next.alarms.threads.items ≡ alarms_after now due.time due.actor)
        (refused : next.has_refused ≡ (timekeeper.has_refused || is_refusal (Answered e r))) where
      pub answer-is : turn.turn.answer ≡ Answered e r
      answer-is = sym (ap (λ (p : Program). (system_turn p (world_of seen) due.actor).answer) is.program_is) ∙ answer

      moment-more : moment_in after next ≡ moment_after now turn
      moment-more =
          let clocks-are : next.clocks.processors.items
          ≡ clocks_after turn.turn.world.state timekeeper.clocks.processors.items
          (record { time = due.time; actor = due.actor }) (is_idle_draw turn.turn.answer) =
          clocks ∙ ap (λ (w : World). clocks_after w.state timekeeper.clocks.processors.items
          (record { time = due.time; actor = due.actor }) (is_idle_draw (Answered e r))) world-more
          ∙ ap (λ (a : TurnAnswer). clocks_after turn.turn.world.state timekeeper.clocks.processors.items
          (record { time = due.time; actor = due.actor }) (is_idle_draw a)) (sym answer-is) in
          let refused-are : next.has_refused ≡ (timekeeper.has_refused || is_refusal turn.turn.answer) = refused
          ∙ ap (λ (a : TurnAnswer). timekeeper.has_refused || is_refusal a) (sym answer-is) in
          λ i. record { world = world-more i; time = time i; clocks = clocks-are i; times = times-more i; alarms = alarms i; has_refused = refused-are i }

      -- the system with this turn is followed
      sleepers-more : AreNumbered (length (world_of after).state.records) (alarms_in next.alarms.threads.items)
      sleepers-more t time there =
          let grown : length (world_of seen).state.records ≤ length (world_of after).state.records =
          omega (arith, turn-grows program (world_of seen) due.actor, ap (λ (w : World). length w.state.records) world-more) in
          let before : AreLater (length (world_of after).state.records) 0 now.alarms = λ u at was. let named =
          is.sleepers u at was in (named.0, omega (arith, named.1, grown), omega arith) in
          let later = alarms-later now (length (world_of after).state.records) 0 due.time due.actor
          (omega arith) before grown t time (ap (λ (f : ℕ → Option ℕ). f t) (sym alarms) ∙ there) in
          (later.0, omega (arith, later.1))

      pub followed-more : HasFollowed (done ++ turn ∷ []) (length seen.history + 1) next
          → HasDues (opening program.limits) (done ++ turn ∷ []) (length seen.history + 1) (world_of after).state next
          → HasRoomFor program next → AreAlarms program.limits.processors next.alarms → IsFollowed program after next
      followed-more followed dues fits sleeping = record {
        program_is = is.program_is;
        room_is = is.room_is;
        timer_is = is.timer_is;
        bounds = is.bounds;
        sleeping = sleeping;
        sleepers = sleepers-more;
        history = ap (λ h. h ++ due.actor ∷ []) is.history ∙ sym (map-append (λ (t : TimedTurn). t.actor) done
            (turn ∷ [])) ∙ ap (map (λ (t : TimedTurn). t.actor)) (sym done-more);
        moment = moment-more ∙ ap (λ m. moment_after m turn) is.moment ∙ sym (moment-one_more
            (opening_moment program) done turn) ∙ ap (moment_after_all (opening_moment program)) (sym done-more);
        rest = rest-more ∙ ap (λ ts. ts ++ others) (sym done-more) ∙ ap (λ n. turns_done program after
            ++ turns_from program (timed_room - n) (moment_after now turn)) (sym longer) ∙ ap (λ m.
            turns_done program after ++ turns_from program (timed_room - length after.history) m) (sym moment-more);
        left = left-more;
        room = fits;
        followed = subst (λ ts. HasFollowed ts (length after.history) next) (sym done-more)
            (subst (λ n. HasFollowed (done ++ turn ∷ []) n next) (sym longer) followed);
        dues = subst (λ ts. HasDues (opening program.limits) ts (length after.history) (world_of after).state next)
            (sym done-more) (subst (λ n.
            HasDues (opening program.limits) (done ++ turn ∷ []) n (world_of after).state next) (sym longer) dues);
      }

-- ---- before the first turn

room-is : 16000000 ≡ timed_room
unfolding timed_room
room-is = refl

pub room-few : timed_room < 2 ^ 24
unfolding timed_room
room-few = omega arith

-- a system that was opened has made none of the program's turns
pub opened-followed : (program : Program) (opened_with : Seen) (timekeeper : Timekeeper) → IsWithinBounds program.limits
    → length program.times ≡ length program.commands → opened_with.setting.program ≡ program
    → IsOpened program opened_with timekeeper
    → IsFollowed program
    (record { setting = record { program = program; room = 16000000; timer = true }; history = [] }) timekeeper
opened-followed program opened_with timekeeper bounds as_many same is =
    let seen : Seen = record { setting = record { program = program; room = 16000000; timer = true }; history = [] } in
    let none_asleep : alarms_in timekeeper.alarms.threads.items ≡ (λ (t : ℕ). None) = ap alarms_in is.alarms
    ∙ none-asleep program.limits.threads in
    let moment : moment_in seen timekeeper ≡ opening_moment program = λ i.
    record { world = world_of seen; time = is.time i; clocks = is.clocks i; times = program.times; alarms = none_asleep i; has_refused = is.refused i } in
    let none : timed_room - 0 ≡ timed_room = omega arith in
    record {
      program_is = refl;
      room_is = room-is;
      timer_is = refl;
      bounds = bounds;
      sleeping = is.sleeping;
      sleepers = λ t at there. let wrong : None ≡ Some at = ap (λ (f : ℕ → Option ℕ). f t) (sym none_asleep) ∙ there in
          cc;
      history = refl;
      moment = moment;
      rest = ap (λ n. turns_from program n (opening_moment program)) (sym none)
          ∙ ap (turns_from program (timed_room - 0)) (sym moment);
      left = sym as_many;
      room = is.room same;
      followed = is.followed;
      dues = is.dues;
    }

-- a search before a turn leaves the records those of the turns made
pub looked-followed : (program : Program) (seen : Seen) (timekeeper : Timekeeper) (above : FoundNodes)
    → HasLayoutFor program above → IsFollowed program seen timekeeper
    → IsFollowed program seen (record timekeeper { currencies = record timekeeper.currencies { above = above } })
looked-followed program seen timekeeper above layout is = record {
  program_is = is.program_is;
  room_is = is.room_is;
  timer_is = is.timer_is;
  bounds = is.bounds;
  history = is.history;
  moment = is.moment;
  rest = is.rest;
  left = is.left;
  room = record { clocks = is.room.clocks; mutexes = is.room.mutexes; replies = is.room.replies; lives = is.room.lives; refused_traps = is.room.refused_traps; ready = is.room.ready; dues = is.room.dues; alarms = is.room.alarms; ticks = is.room.ticks; currency_dues = is.room.currency_dues; above = layout };
  sleeping = is.sleeping;
  sleepers = is.sleepers;
  followed = record { idled = is.followed.idled; mutexes = is.followed.mutexes; replies = is.followed.replies; lives = is.followed.lives; refused_traps = is.followed.refused_traps; refused = is.followed.refused; few = is.followed.few };
  dues = record { ready = is.dues.ready; dues = is.dues.dues; currencies = record { ticks = is.dues.currencies.ticks; few = is.dues.currencies.few; dues = is.dues.currencies.dues } };
}

-- what a result that is an error says of its value
pub if-ok-none : {A E : Type 0} (r : Result A E) (P : A → Type 0) → IsErr r → IfOk r P
if-ok-none (Ok x) P is = cc
if-ok-none (Err e) P is = tt
