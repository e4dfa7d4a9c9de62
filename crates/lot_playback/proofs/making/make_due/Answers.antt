-- The turn that is due is the timer's, if its actor is above the processors; its thread then sleeps.
use Rattle.lot_playback.proofs.Lemmas.{Due, IsBetween, IsDue, Seen, Timekeeper, after_turn, alarm-due, ap, arith, asleep-there, due-there, length, moment_in, refl, sleeper-numbered, sleeper-there, sym, turn_in, world_of, ◌+◌, ◌-◌, ◌<◌, ◌∙◌, ◌≡◌, ◌≤◌}
use Rattle.lot_playback.proofs.making.make_due.Goals as goal

-- whom the timer wakes has a place in the table
woken-there : (seen : Seen) (timekeeper : Timekeeper) (due : Due) → IsDue seen.setting.program seen timekeeper due
    → seen.setting.program.limits.processors < due.actor
    → IsBetween 1 (length timekeeper.alarms.threads.items) (due.actor - seen.setting.program.limits.processors)
woken-there seen timekeeper due its past =
    asleep-there timekeeper.alarms.threads.items (due.actor - seen.setting.program.limits.processors) due.time
    (alarm-due seen.setting.program (moment_in seen timekeeper) due its.first past)

pub wake-requires : goal.wake-requires
wake-requires c =
    let seen = c.args.system.now in
    let timekeeper = c.args.timekeeper.now in
    let due : Due = record { time = c.requires.due.0; actor = c.args.actor } in
    let there = woken-there seen timekeeper due c.requires.due.1
    (omega (arith, c.if-actor-processors.true, c.processors-processors.ensures.program)) in
    record {
      timer = c.requires.there.followed.timer_is;
      there = (omega (arith, there.0, c.processors-processors.ensures.program), omega (arith, there.1, c.processors-processors.ensures.program, c.requires.there.followed.room.alarms));
      room = c.requires.due.1.room;
    }

pub returns-then-actor-processors : goal.returns-then-actor-processors
returns-then-actor-processors c =
    let seen = c.args.system.now in
    let timekeeper = c.args.timekeeper.now in
    let due : Due = record { time = c.requires.due.0; actor = c.args.actor } in
    let past : seen.setting.program.limits.processors < c.args.actor =
    omega (arith, c.if-actor-processors.true, c.processors-processors.ensures.program) in
    let there = woken-there seen timekeeper due c.requires.due.1 past in
    let whom : seen.setting.program.limits.processors + (c.args.actor - c.processors-processors.result) ≡ c.args.actor =
    omega (arith, past, c.processors-processors.ensures.program) in
    record {
      made = (c.wake.ensures.seen ∙ ap (after_turn seen) whom, ap (λ a. (turn_in seen a).answer) (sym whom) ∙ c.wake.ensures.answer);
      sleeper = λ some few. absurd (omega (arith, few, past));
      can = record { sleeps = λ some few. tt; wakes = λ more. omega (arith, there.1, past) };
      rest = refl;
    }

pub next_turn-requires : goal.next_turn-requires
next_turn-requires c =
    record { there = omega (arith, c.if-actor-processors.false, c.processors-processors.ensures.program); room = c.requires.due.1.room }

pub unreachable-requires : goal.unreachable-requires
unreachable-requires c =
    let seen = c.args.system.now in
    let due : Due = record { time = c.requires.due.0; actor = c.args.actor } in
    let ended = (c.next_turn.ensures.ended c.if-not-next_turn.true).0 in
    let some =
    due-there seen.setting.program (moment_in seen c.args.timekeeper.now) due c.requires.due.1.first ended.0 in
    omega (arith, some, c.requires.there.followed.left, ap length ended.1)

pub returns : goal.returns
returns c =
    let seen = c.args.system.now in
    let timekeeper = c.args.timekeeper.now in
    let few : c.args.actor ≤ seen.setting.program.limits.processors =
    omega (arith, c.if-actor-processors.false, c.processors-processors.ensures.program) in
    let goes = c.if-not-next_turn.false in
    let enough : length (world_of seen).state.records ≤ length timekeeper.alarms.threads.items =
    omega (arith, c.thread_count.ensures.count, c.thread_count.ensures.within, c.requires.there.followed.room.alarms) in
    record {
      made = c.next_turn.ensures.made goes;
      sleeper = λ some low. c.next_turn.ensures.sleeper goes some;
      can = record {
        sleeps = λ some low.
            sleeper-there _ (length (world_of seen).state.records) (length timekeeper.alarms.threads.items) enough
            (sleeper-numbered (world_of seen) c.args.actor _ (c.next_turn.ensures.sleeper goes some));
        wakes = λ past. absurd (omega (arith, few, past));
      };
      rest = refl;
    }
