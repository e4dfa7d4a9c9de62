-- The turn is the one that is due, and the timekeeper has followed it.
use Rattle.lot_playback.proofs.Lemmas.{Answered, Answers, AreAlarms, CanFollow, CanFollowTurn, Due, Event, FollowsTurn, HasDues, HasDuesBefore, HasOthersAbove, IsAtTime, IsDue, IsFollowed, IsNext, IsTold, IsWithinBounds, Layout, NextTurn, Option, Program, Reply, Seen, Sleeper, Some, Timekeeper, ToldTurn, Turn, World, after_turn, alarms_after, alarms_in, answer-is, answer_in, ap, arith, clocks_after, due_turn, followed-more, found-for, is_idle_draw, length, moment_in, next_turns, one-next, opening, ran-on, refl, room-few, room-small, rules, sleeper_on, subst, sym, system_turn, thread_on, time-due, time-made, time-more, time-there, timed_room, turn-answers, turn_due, turn_in, turns_done, vec_len, within-room, world-more, world_of, ℕ, [], ◌++◌, ◌+◌, ◌<◌, ◌^◌, ◌∙◌, ◌∷◌, ◌≡◌, ◌≤◌}
use Rattle.lot_playback.proofs.making.make_and_follow.Goals as goal

module _ (seen : Seen) (timekeeper : Timekeeper) (there : IsAtTime seen timekeeper) (next : NextTurn)
    (is : IsNext (record { seen = seen; made = length seen.history }) next) (time : ℕ) (some : next.time ≡ Some time)
    (early : time < 2 ^ 32) where
  abbrev program : Program
  program = seen.setting.program

  abbrev due : Due
  due = record { time = time; actor = next.actor }

  its : IsDue program seen timekeeper due
  its = time-due seen timekeeper there next is time some early

  room : length seen.history < timed_room
  room = omega (arith, its.room, there.followed.room_is)

  next-is : next_turns program seen ≡ due_turn seen due ∷ []
  next-is = one-next program seen timekeeper there.followed due its.first room

  module _ (e : Event) (r : Reply) (now : Seen) (sleeper : Option Sleeper) (after : now ≡ after_turn seen next.actor)
      (answer : (turn_in seen next.actor).answer ≡ Answered e r)
      (looked : (t : ℕ) → 0 < next.actor → thread_on (world_of seen).state.records next.actor ≡ Some t
      → HasOthersAbove (world_of seen).state t timekeeper.currencies.above) where
    abbrev told : ToldTurn
    told = record { seen = now; time = time; actor = next.actor; event = e; reply = r; sleeper = sleeper }

    processors : vec_len timekeeper.clocks.processors ≡ program.limits.processors
    processors = omega (arith, there.followed.room.clocks, timekeeper.clocks.processors.ok.0)

    -- the answer is the machine's, and what was found above the thread on the processor is above the one that ran
    dues-before : HasDuesBefore told (opening program.limits) (world_of seen).state (turns_done program seen)
        (length seen.history) timekeeper
    dues-before =
        let there = there.followed in
        let own : (system_turn program (world_of seen) next.actor).answer ≡ Answered e r =
        sym (ap (λ (p : Program). (system_turn p (world_of seen) next.actor).answer) there.program_is) ∙ answer in
        record {
          few = omega (arith, within-room program seen timekeeper there, room-few);
          dues = there.dues;
          answers = subst (λ (w : World). Answers (world_of seen).state e r w.state)
              (sym (ap world_of after ∙ world-more program seen timekeeper there due its.first room))
              (turn-answers program (world_of seen) next.actor e r own);
          found = found-for (world_of seen).state next.actor r timekeeper.currencies.above
              (ran-on seen.setting.program (world_of seen) next.actor e r answer) looked;
        }

    can-then : CanFollow next.actor program.limits.processors (length timekeeper.alarms.threads.items) sleeper
        → CanFollowTurn told timekeeper
    can-then can =
        let is = there.followed in
        record {
          bounds = subst (λ (s : Seen). IsWithinBounds s.setting.program.limits) (sym after) is.bounds;
          processors = omega (arith, processors, is.bounds.of_processors.1);
          threads = omega (arith, is.room.ready, is.bounds.of_threads.1, timekeeper.ready.threads.ok.0);
          currencies = omega
              (arith, is.room.ticks, ap (λ (l : Layout). l.currencies) is.room.above, timekeeper.currencies.ticks.ok.0);
          sleeping = subst (λ n. AreAlarms n timekeeper.alarms) (sym processors) is.sleeping;
          sleeper =
              subst (λ n. CanFollow next.actor n (length timekeeper.alarms.threads.items) sleeper) (sym processors) can;
          followed = (turns_done program seen, length seen.history, omega (arith, within-room program seen timekeeper is, room-small), is.followed);
          dues = (opening program.limits, (world_of seen).state, turns_done program seen, length seen.history, dues-before);
        }

    followed-then : (0 < next.actor → next.actor ≤ program.limits.processors
        → sleeper ≡ sleeper_on (world_of seen) next.actor) → (new : Timekeeper) → FollowsTurn told timekeeper new
        → IsFollowed program now new
    followed-then asleep new follows =
        let is = there.followed in
        let turn = turn_due program (moment_in seen timekeeper) due in
        let alarms : alarms_in new.alarms.threads.items ≡ alarms_after (moment_in seen timekeeper) time next.actor =
        follows.alarms (moment_in seen timekeeper) refl refl
        (λ some few. asleep some (omega (arith, few, is.room.clocks))) in
        let clocks : new.clocks.processors.items ≡ clocks_after (world_of (after_turn seen next.actor)).state
        timekeeper.clocks.processors.items (record { time = time; actor = next.actor }) (is_idle_draw (Answered e r)) =
        follows.clocks ∙ ap (λ (s : Seen). clocks_after (world_of s).state timekeeper.clocks.processors.items
        (record { time = time; actor = next.actor }) (is_idle_draw (Answered e r))) after in
        let is_told : IsTold told turn =
        record {
          time = refl;
          answer = answer-is program seen timekeeper is due its.first room e r answer new follows.time clocks alarms
              follows.refused;
          world = sym (ap world_of after ∙ world-more program seen timekeeper is due its.first room);
        } in
        let more = follows.followed (turns_done program seen) (length seen.history) turn is_told is.followed in
        let owed = follows.dues (opening program.limits) (world_of seen).state (turns_done program seen)
        (length seen.history) turn is_told dues-before in
        let owed_there = subst (λ s. HasDues (opening program.limits) (turns_done program seen ++ turn ∷ [])
        (length seen.history + 1) (world_of s).state new) after owed in
        subst (λ s. IsFollowed program s new) (sym after)
        (followed-more program seen timekeeper is due its.first room e r answer new follows.time clocks alarms
        follows.refused more owed_there (follows.room program is.room)
        (subst (λ n. AreAlarms n new.alarms) processors follows.sleeping))

pub unreachable-requires : goal.unreachable-requires
unreachable-requires c =
    time-there c.args.system.now c.args.timekeeper.now c.requires.there c.args.next c.requires.next ⊥ c.in_default.is

pub make_due-sleeper-requires-clause-due : goal.make_due-sleeper-requires-clause-due
make_due-sleeper-requires-clause-due c =
    let early : c.in-Some.time < 2 ^ 32 = search rules in
    (c.in-Some.time, its c.args.system.now c.args.timekeeper.now c.requires.there c.args.next c.requires.next c.in-Some.time c.in-Some.is early)

pub follow-requires : goal.follow-requires
follow-requires c =
    let made = c.make_due-sleeper.ensures.made in
    record {
      can = can-then c.args.system.now c.args.timekeeper.now c.requires.there c.args.next c.requires.next c.in-Some.time
          c.in-Some.is (search rules) c.make_due-sleeper.new.turn.event c.make_due-sleeper.new.turn.reply
          c.make_due-sleeper.new.system c.make_due-sleeper.result made.0 made.1 c.requires.found
          c.make_due-sleeper.ensures.can;
    }

pub returns : goal.returns
returns c =
    let seen = c.args.system.now in
    let timekeeper = c.args.timekeeper.now in
    let time = c.in-Some.time in
    let early : time < 2 ^ 32 = search rules in
    let due : Due = record { time = time; actor = c.args.next.actor } in
    let e = c.make_due-sleeper.new.turn.event in
    let r = c.make_due-sleeper.new.turn.reply in
    let now = c.make_due-sleeper.new.system in
    let made = c.make_due-sleeper.ensures.made in
    let then_following = c.follow.new.self in
    let followed = followed-then seen timekeeper c.requires.there c.args.next c.requires.next time c.in-Some.is early e
    r now c.make_due-sleeper.result made.0 made.1 c.requires.found c.make_due-sleeper.ensures.sleeper then_following
    c.follow.ensures.follows in
    let same = c.follow.ensures.same in
    let last = c.follow.new.system in
    let followed_last = subst (λ s. IsFollowed seen.setting.program s then_following) (sym same) followed in
    let first = next-is seen timekeeper c.requires.there c.args.next c.requires.next time c.in-Some.is early in
    let turn = c.make_due-sleeper.new.turn in
    record {
      there = time-more seen timekeeper c.requires.there due e r first made.1 last
          (same ∙ made.0) then_following followed_last;
      made = time-made seen timekeeper c.requires.there due e r first made.1 last
          (same ∙ made.0) then_following followed_last turn
          (record {
            time = ap (λ (t : Turn). t.time) c.make_due-sleeper.ensures.rest ∙ c.in-Some.is;
            actor = ap (λ (t : Turn). t.actor) c.make_due-sleeper.ensures.rest;
            answer = made.1 ∙ ap (λ (t : Turn). answer_in t.has_ended e r) (sym c.make_due-sleeper.ensures.rest);
          });
    }
