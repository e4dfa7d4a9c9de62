-- Below the limit on turns no turn is due after the last, and a refusal ends a strict play.
use Rattle.lot_simulation.proofs.Common.{Bool, Due, List, Moment, None, Option, Program, Some, TimedTurn, ap, append-nil, arith, cond, due_first, early_text, end_of, ended_at, false, following, is_refusal, is_stopped, last_moment, length, moment_after, moment_after_all, next_due, opening_moment, option_map, refl, suc, sym, timed_report, timed_report_of, timed_room, timed_turns, true, turn_due, turns_from, zero, ℕ, [], ◌++◌, ◌<◌, ◌||◌, ◌∙◌, ◌∷◌, ◌≡◌}

module _ (program : Program) where
  -- the moment after the turns from this one on
  abbrev after : ℕ → Moment → Moment
  after room m = moment_after_all m (turns_from program room m)

  none-due : (room : ℕ) (m : Moment) → length (turns_from program room m) < room
      → next_due program (after room m) ≡ None
  none-due zero m few = absurd (omega (arith, few))
  none-due (suc room) m few = from (next_due program m) refl (λ done. none-due room (moment_after m done)) few
    where
      from : (o : Option Due) → next_due program m ≡ o
          → ((done : TimedTurn) → length (turns_from program room (moment_after m done)) < room
          → next_due program (after room (moment_after m done)) ≡ None)
          → length (due_first program m (λ done. turns_from program room (moment_after m done)) o) < suc room
          → next_due program
          (moment_after_all m (due_first program m (λ done. turns_from program room (moment_after m done)) o)) ≡ None
      from None is more few = is
      from (Some due) is more few = more (turn_due program m due) (omega (arith, few))

  -- without a refusal that ends the play none would follow either
  none-follows : (m : Moment) → is_stopped program m ≡ false → next_due program m ≡ None → following program m ≡ None
  none-follows m goes none = sym (ap (λ b. cond b None (following program m)) goes) ∙ none

  ended-by : (m : Moment) → following program m ≡ None → ended_at program m ≡ end_of program
  ended-by m none = rw none refl

  -- so its report is that of its whole time, and no more
  pub report-whole : is_stopped program (last_moment program) ≡ false → length (timed_turns program) < timed_room
      → timed_report program ≡ timed_report_of program (last_moment program) (end_of program) (timed_turns program)
  report-whole goes few =
      let m = last_moment program in
      let none = none-follows m goes (none-due timed_room (opening_moment program) few) in
      let made = length (timed_turns program) in
      ap (λ o. timed_report_of program m (ended_at program m) (timed_turns program)
      ++ early_text (option_map (λ (due : Due). record { time = m.time; end = end_of program; turns = made }) o)) none
      ∙ append-nil (timed_report_of program m (ended_at program m) (timed_turns program))
      ∙ ap (λ n. timed_report_of program m n (timed_turns program)) (ended-by m none)

  -- ---- strict plays

  module _ (strict : program.options.strict ≡ true) where
    -- no turn is made once a command or a trap was refused
    none-after : (room : ℕ) (m : Moment) → m.has_refused ≡ true → turns_from program room m ≡ []
    none-after zero m refused = refl
    none-after (suc room) m refused = rw (strict, refused) refl

    refused-after : (m : Moment) (done : TimedTurn) → is_refusal done.turn.answer ≡ true
        → (moment_after m done).has_refused ≡ true
    refused-after m done refused = at m.has_refused
      where
        at : (b : Bool) → (b || is_refusal done.turn.answer) ≡ true
        at true = refl
        at false = refused

    last-from : (room : ℕ) (m : Moment) (before : List TimedTurn) (done : TimedTurn) (others : List TimedTurn)
        → turns_from program room m ≡ before ++ done ∷ others → is_refusal done.turn.answer ≡ true → others ≡ []
    last-from zero m [] done others is refused = absurd cc
    last-from zero m (x ∷ before) done others is refused = absurd cc
    last-from (suc room) m before done others is refused =
        from (λ m before is. last-from room m before done others is refused) (next_due program m) before is
      where
        from : ((m : Moment) (before : List TimedTurn) → turns_from program room m ≡ before ++ done ∷ others
            → others ≡ []) → (o : Option Due) (before : List TimedTurn)
            → due_first program m (λ done. turns_from program room (moment_after m done)) o ≡ before ++ done ∷ others
            → others ≡ []
        from later None [] is = absurd cc
        from later None (x ∷ before) is = absurd cc
        from later (Some due) [] is =
            let this : turn_due program m due ≡ done = cc in
            let rest : turns_from program room (moment_after m (turn_due program m due)) ≡ others = cc in
            sym rest ∙ none-after room (moment_after m (turn_due program m due))
            (refused-after m (turn_due program m due) (ap (λ (d : TimedTurn). is_refusal d.turn.answer) this ∙ refused))
        from later (Some due) (x ∷ before) is =
            let rest : turns_from program room (moment_after m (turn_due program m due)) ≡ before ++ done ∷ others =
            cc in
            later (moment_after m (turn_due program m due)) before rest

    -- a refusal is the last turn of a strict play
    pub refusal-last : (before : List TimedTurn) (done : TimedTurn) (others : List TimedTurn)
        → timed_turns program ≡ before ++ done ∷ others → is_refusal done.turn.answer ≡ true → others ≡ []
    refusal-last before done others is refused =
        last-from timed_room (opening_moment program) before done others is refused
