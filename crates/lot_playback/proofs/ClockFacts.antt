-- A system with turns in the order of time.
use Rattle.lot_playback.proofs.Common.{Answered, Due, Ended, Event, IsAtEnd, IsAtTime, IsDue, IsFollowed, IsNext, IsSome, List, MadeTurn, MakesTurn, Moment, NextTurn, None, Option, Program, Reply, Reports, Seen, Setting, Some, Stage, TimedTurn, Timekeeper, World, after_turn, ap, arith, drop, due_first, due_turn, false, is_some, length, length-append, moment_after, moment_in, next_due, next_turns, opening_moment, opening_world, played-after, refl, subst, suc, sym, take, timed_room, timed_turns, true, turn_due, turn_in, turn_in_time, turns_by, turns_done, turns_from, turns_in_time, turns_left, world_of, zero, ℕ, [], ◌++◌, ◌+◌, ◌-◌, ◌<◌, ◌^◌, ◌∙◌, ◌∷◌, ◌≡◌}
use Rattle.lot_playback.proofs.FollowFacts.{all-done, one-next}
use Rattle.lot_playback.specs.declared.turn.Turn.{Turn as ATurn}
use Rattle.lot_playback.proofs.MadeFacts.{counted-answered, made-more}
use Rattle.lot_playback.proofs.TurnFacts.{drop-timed, moment-world, none-timed, world_after_timed}

-- ---- the next of a list

module _ {A : Type 0} where
  next-none : (xs : List A) → take 1 xs ≡ [] → xs ≡ []
  next-none [] e = refl
  next-none (x ∷ xs) e = absurd (let wrong : x ∷ [] ≡ [] = e in cc)

  next-some : (xs : List A) (n : ℕ) (x : A) → take 1 (drop n xs) ≡ x ∷ [] → drop n xs ≡ x ∷ drop (n + 1) xs
  next-some xs n x is = let e : suc n ≡ n + 1 = omega arith in from xs n is ∙ ap (λ k. x ∷ drop k xs) e
    where
      from : (xs : List A) (n : ℕ) → take 1 (drop n xs) ≡ x ∷ [] → drop n xs ≡ x ∷ drop (suc n) xs
      from [] zero wrong = absurd (let e : [] ≡ x ∷ [] = wrong in cc)
      from [] (suc n) wrong = absurd (let e : [] ≡ x ∷ [] = wrong in cc)
      from (y ∷ ys) zero is = let e : y ≡ x = cc in ap (λ z. z ∷ ys) e
      from (y ∷ ys) (suc n) is = from ys n is

  -- what is added to a beginning is the rest
  rest-is : (xs rest : List A) (n : ℕ) → xs ≡ take n xs ++ rest → drop n xs ≡ rest
  rest-is [] rest zero e = e
  rest-is [] rest (suc n) e = e
  rest-is (x ∷ xs) rest zero e = e
  rest-is (x ∷ xs) rest (suc n) e = let later : xs ≡ take n xs ++ rest = cc in rest-is xs rest n later

-- the first turn that is made from a moment on is the one that is due
due-first : (program : Program) (room : ℕ) (m : Moment) (turn : TimedTurn) → take 1 (turns_from program room m) ≡ turn
    ∷ [] → (0 < room) × (next_due program m ≡ Some (record { time = turn.time; actor = turn.actor }))
due-first program zero m turn wrong = absurd (let e : [] ≡ turn ∷ [] = wrong in cc)
due-first program (suc room) m turn is = (omega arith, from (next_due program m) refl is)
  where
    from : (o : Option Due) → next_due program m ≡ o
        → take 1 (due_first program m (λ done. turns_from program room (moment_after m done)) o) ≡ turn ∷ []
        → next_due program m ≡ Some (record { time = turn.time; actor = turn.actor })
    from None is wrong = absurd (let e : [] ≡ turn ∷ [] = wrong in cc)
    from (Some due) is first =
        let same : turn_due program m due ≡ turn = cc in
        is ∙ ap (λ (t : TimedTurn). Some (record { time = t.time; actor = t.actor })) same

-- ---- the turns that are left

abbrev stage : Seen → Stage
stage seen = record { seen = seen; made = length seen.history }

timed-turns : (program : Program) (d : Option ℕ) → IsSome d
    → turns_by program d ≡ turns_in_time (opening_world program) (timed_turns program)
timed-turns program None wrong = absurd (let e : false ≡ true = wrong in cc)
timed-turns program (Some duration) is = refl

-- they are those that the clocks give
pub time-left : (seen : Seen) (timekeeper : Timekeeper) → IsAtTime seen timekeeper → turns_left (stage seen)
    ≡ turns_in_time (world_of seen) (drop (length seen.history) (timed_turns seen.setting.program))
time-left seen timekeeper is =
    let program = seen.setting.program in
    let n = length seen.history in
    let world : world_after_timed (opening_world program) (take n (timed_turns program)) ≡ world_of seen =
    sym (ap (λ (m : Moment). m.world) is.followed.moment
    ∙ moment-world (opening_moment program) (turns_done program seen)) in
    ap (drop n) (timed-turns program program.duration is.timed)
    ∙ drop-timed (opening_world program) (timed_turns program) n
    ∙ ap (λ (w : World). turns_in_time w (drop n (timed_turns program))) world

module _ (seen : Seen) (timekeeper : Timekeeper) (is : IsAtTime seen timekeeper) where
  abbrev program : Program
  program = seen.setting.program

  left : turns_left (stage seen) ≡ turns_in_time (world_of seen) (drop (length seen.history) (timed_turns program))
  left = time-left seen timekeeper is

  pub time-none : next_turns program seen ≡ [] → turns_left (stage seen) ≡ []
  time-none none = left
      ∙ ap (turns_in_time (world_of seen)) (next-none (drop (length seen.history) (timed_turns program)) none)

  -- the turn that is due is next
  pub time-next : (due : Due) (next : NextTurn) → IsDue program seen timekeeper due → next.time ≡ Some due.time
      → next.actor ≡ due.actor → IsNext (stage seen) next
  time-next due next its time actor =
      let turn = turn_due program (moment_in seen timekeeper) due in
      let room : length seen.history < timed_room = omega (arith, its.room, is.followed.room_is) in
      let goes = next-some (timed_turns program) (length seen.history) turn
      (one-next program seen timekeeper is.followed due its.first room) in (
        turn_in_time (world_of seen) turn,
        turns_in_time turn.turn.world (drop (length seen.history + 1) (timed_turns program)),
        left ∙ ap (turns_in_time (world_of seen)) goes,
        record { time = time; actor = actor },
      )

  -- if none is left, all are made
  pub time-end : turns_left (stage seen) ≡ [] → IsAtEnd seen timekeeper
  time-end none =
      let nothing : drop (length seen.history) (timed_turns program) ≡ [] =
      none-timed (world_of seen) (drop (length seen.history) (timed_turns program)) (sym left ∙ none) in
      record { followed = is.followed; all = all-done program seen timekeeper is.followed (ap (take 1) nothing) }

  -- ---- the turn that is next

  module _ (next : NextTurn) (its : IsNext (stage seen) next) where
    time-goes : (turn : TimedTurn) × (take 1 (drop (length seen.history) (timed_turns program)) ≡ turn ∷ [])
        × (turn_in_time (world_of seen) turn ≡ its.0)
    time-goes = from (drop (length seen.history) (timed_turns program)) (sym left ∙ its.2)
      where
        from : (xs : List TimedTurn) → turns_in_time (world_of seen) xs ≡ its.0 ∷ its.1
            → (turn : TimedTurn) × (take 1 xs ≡ turn ∷ []) × (turn_in_time (world_of seen) turn ≡ its.0)
        from [] wrong = absurd (let e : [] ≡ its.0 ∷ its.1 = wrong in cc)
        from (x ∷ xs) same = (x, refl, cc)

    -- it has a time
    pub time-there : (P : Type 0) → next.time ≡ None → P
    time-there P none =
        let goes = time-goes in
        let some : next.time ≡ Some goes.0.time = its.3.time ∙ ap (λ (m : MadeTurn). m.time) (sym goes.2) in
        absurd (let wrong : Some goes.0.time ≡ None = sym some ∙ none in cc)

    pub time-due : (time : ℕ) → next.time ≡ Some time → time < 2 ^ 32
        → IsDue program seen timekeeper (record { time = time; actor = next.actor })
    time-due time some early =
        let goes = time-goes in
        let turn = goes.0 in
        let first : take 1 (turns_from program (timed_room - length seen.history) (moment_in seen timekeeper)) ≡ turn
        ∷ [] =
        ap (take 1) (sym (rest-is (timed_turns program) (turns_from program (timed_room - length seen.history)
        (moment_in seen timekeeper)) (length seen.history) is.followed.rest)) ∙ goes.1 in
        let due = due-first program (timed_room - length seen.history) (moment_in seen timekeeper) turn first in
        let at : Some turn.time ≡ Some time = ap (λ (m : MadeTurn). m.time) goes.2 ∙ sym its.3.time ∙ some in
        let same : turn.time ≡ time = cc in
        let actor : turn.actor ≡ next.actor = ap (λ (m : MadeTurn). m.actor) goes.2 ∙ sym its.3.actor in
        record {
          room = omega (arith, due.0, is.followed.room_is);
          first = due.1 ∙ ap (λ t. Some (record { time = t; actor = turn.actor })) same
              ∙ ap (λ a. Some (record { time = time; actor = a })) actor;
          within = early;
        }

-- ---- the turn that was made

module _ (seen : Seen) (timekeeper : Timekeeper) (is : IsAtTime seen timekeeper) (due : Due) (e : Event) (r : Reply)
    (next : next_turns seen.setting.program seen ≡ due_turn seen due ∷ [])
    (answer : (turn_in seen due.actor).answer ≡ Answered e r) (now : Seen) (after : now ≡ after_turn seen due.actor)
    (then_following : Timekeeper) (followed : IsFollowed seen.setting.program now then_following) where
  abbrev its : Program
  its = seen.setting.program

  same-setting : now.setting ≡ seen.setting
  same-setting = ap (λ (s : Seen). s.setting) after

  pub time-more : IsAtTime now then_following
  time-more = record {
    timed = ap (λ (s : Setting). is_some s.program.duration) same-setting ∙ is.timed;
    followed = subst (λ (s : Setting). IsFollowed s.program now then_following) (sym same-setting) followed;
  }

  world-now : world_of now ≡ (turn_in seen due.actor).world
  world-now = ap world_of after ∙ (played-after seen due.actor e r answer).world

  longer : length now.history ≡ length seen.history + 1
  longer = ap (λ (s : Seen). length s.history) after ∙ length-append seen.history (due.actor ∷ [])

  left-next : turns_left (stage seen) ≡ turn_in_time (world_of seen) (due_turn seen due) ∷ turns_left (stage now)
  left-next =
      let turn = due_turn seen due in
      let n = length seen.history in
      let rest : turns_in_time turn.turn.world (drop (n + 1) (timed_turns its)) ≡ turns_left (stage now) =
      ap (λ (w : World). turns_in_time w (drop (n + 1) (timed_turns its))) (sym world-now)
      ∙ ap (λ k. turns_in_time (world_of now) (drop k (timed_turns its))) (sym longer)
      ∙ ap (λ (s : Setting). turns_in_time (world_of now) (drop (length now.history) (timed_turns s.program)))
      (sym same-setting)
      ∙ sym (time-left now then_following time-more) in
      time-left seen timekeeper is ∙ ap (turns_in_time (world_of seen)) (next-some (timed_turns its) n turn next)
      ∙ ap (λ ts. turn_in_time (world_of seen) turn ∷ ts) rest

  -- and it has a command, if it is the console's
  goes-on : (P : Type 0) → (turn_in seen due.actor).answer ≡ Ended → P
  goes-on P none = absurd (let wrong : Answered e r ≡ Ended = sym answer ∙ none in cc)

  pub time-made : (turn : ATurn) → Reports turn (turn_in_time (world_of seen) (due_turn seen due))
      → (made : MadeTurn) × MakesTurn (stage seen) (stage now) turn made
  time-made turn reports =
      let made = turn_in_time (world_of seen) (due_turn seen due) in (
        made,
        record {
          setting = same-setting;
          left = left-next;
          before = refl;
          just = λ turns has. record { turn_is = refl; actor = λ none. absurd (let wrong : Some due.time ≡ None = none in cc); ended = λ none. goes-on (made.time ≡ None) none; reports = reports; has = made-more seen now due.actor same-setting world-now made refl refl (counted-answered seen now due.actor e r after answer) its turns has };
        },
      )
