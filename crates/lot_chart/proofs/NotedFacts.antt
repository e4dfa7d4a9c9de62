-- The curves of a program are those of its turns.
use Rattle.lot_chart.proofs.Common.{ActorTurn, Answered, Bool, By, Command, Currency, Ended, Event, IsSome, List, MadeTurn, Moment, None, Option, Program, Reply, Some, Stretch, Thread, TimedTurn, TurnAnswer, TurnMade, World, actor_event, ap, append-nil, append_assoc, arith, beside, command_times, commands_in, cond, console_turn, counted_turn, counted_turns, currency_stretches_from, curves_after, curves_by, curves_of, ended_after, ended_in_time, false, filter, flat_map, flat_map-append, map, moment_after, moment_after_all, names_by, ne_eqb, opening_moment, opening_world, own_end, processor_turn, program_turns, refl, scheduled_curves, scheduled_turn, scheduled_turns, stretch_of, stretches_in, stretches_made, subst, suc, sym, system_after, system_answers, system_run, system_turn, timed-world, timed_curves_by, timed_schedule, timed_stretches_by, timed_turns, true, turn_in_time, turn_stretches, turns_by, turns_in_time, turns_made, world_after_turns, zero, ℕ, [], ◌++◌, ◌==◌, ◌∙◌, ◌∷◌, ◌≡◌}

-- ---- a schedule

-- a turn without a command leaves the world as it is
ended-same : (program : Program) (w : World) (actor : ℕ) → (system_turn program w actor).answer ≡ Ended
    → (system_turn program w actor).world ≡ w
ended-same program w zero is = from w.commands is
  where
    from : (cs : List Command) → (console_turn program w cs).answer ≡ Ended → (console_turn program w cs).world ≡ w
    from [] told = refl
    from (c ∷ cs) told = cc
ended-same program w (suc n) is =
    let no : (suc n == 0) ≡ false = ne_eqb (suc n) 0 (λ x. omega arith) in
    let turn : system_turn program w (suc n) ≡ processor_turn w (suc n) (actor_event program w (suc n)) = rw no refl in
    absurd (let wrong = sym (ap (λ (t : TurnMade). t.answer) turn) ∙ is in cc)

-- one that is answered is one more in the history
answered-more : (program : Program) (w : World) (actor : ℕ) (e : Event) (r : Reply)
    → (system_turn program w actor).answer ≡ Answered e r
    → (system_turn program w actor).world.history ≡ w.history ++ actor ∷ []
answered-more program w zero e r is = from w.commands is
  where
    from : (cs : List Command) → (console_turn program w cs).answer ≡ Answered e r
        → (console_turn program w cs).world.history ≡ w.history ++ 0 ∷ []
    from [] told = cc
    from (c ∷ cs) told = refl
answered-more program w (suc n) e r is =
    let no : (suc n == 0) ≡ false = ne_eqb (suc n) 0 (λ x. omega arith) in
    let turn : system_turn program w (suc n) ≡ processor_turn w (suc n) (actor_event program w (suc n)) = rw no refl in
    ap (λ (t : TurnMade). t.world.history) turn

-- whose turns were counted
abbrev actors_in : List ActorTurn → List ℕ
actors_in turns = map (λ turn. turn.actor) turns

module _ (program : Program) where
  abbrev made_by : World → List ℕ → List ActorTurn
  made_by w actors = counted_turns (scheduled_turns program w actors)

  history-is : (w : World) (actors : List ℕ)
      → (system_after program w actors).history ≡ w.history ++ actors_in (made_by w actors)
  history-is w [] = sym (append-nil w.history)
  history-is w (a ∷ actors) =
      from (system_turn program w a).answer refl (history-is (system_turn program w a).world actors)
    where
      from : (x : TurnAnswer) → (system_turn program w a).answer ≡ x
          → (system_after program (system_turn program w a).world actors).history
          ≡ (system_turn program w a).world.history ++ actors_in (made_by (system_turn program w a).world actors)
          → (system_after program (system_turn program w a).world actors).history ≡ w.history
          ++ actors_in (counted_turn a x ++ made_by (system_turn program w a).world actors)
      from (Answered e r) is later = later
          ∙ ap (λ h. h ++ actors_in (made_by (system_turn program w a).world actors)) (answered-more program w a e r is)
          ∙ append_assoc w.history (a ∷ []) (actors_in (made_by (system_turn program w a).world actors))
      from Ended is later = later ∙ ap (λ (x : World). x.history
          ++ actors_in (made_by (system_turn program w a).world actors)) (ended-same program w a is)

  made-is : (w : World) (actors : List ℕ) → beside (actors_in (made_by w actors))
      (system_answers program w (actors_in (made_by w actors))) ≡ made_by w actors
  made-is w [] = refl
  made-is w (a ∷ actors) = from (system_turn program w a).answer refl (made-is (system_turn program w a).world actors)
    where
      from : (x : TurnAnswer) → (system_turn program w a).answer ≡ x
          → beside (actors_in (made_by (system_turn program w a).world actors))
          (system_answers program (system_turn program w a).world
          (actors_in (made_by (system_turn program w a).world actors))) ≡ made_by (system_turn program w a).world actors
          → beside (actors_in (counted_turn a x ++ made_by (system_turn program w a).world actors))
          (system_answers program w (actors_in (counted_turn a x ++ made_by (system_turn program w a).world actors)))
          ≡ counted_turn a x ++ made_by (system_turn program w a).world actors
      from (Answered e r) is later =
          ap (λ (x : TurnAnswer). record { actor = a; answer = x }
          ∷ beside (actors_in (made_by (system_turn program w a).world actors)) (system_answers program
          (system_turn program w a).world (actors_in (made_by (system_turn program w a).world actors)))) is
          ∙ ap (λ (ts : List ActorTurn). record { actor = a; answer = Answered e r } ∷ ts) later
      from Ended is later =
          ap (λ (x : World). beside (actors_in (made_by (system_turn program w a).world actors)) (system_answers program
          x (actors_in (made_by (system_turn program w a).world actors)))) (sym (ended-same program w a is))
          ∙ later

  -- the turns that the history has are those that were counted
  counted-is : turns_made program (system_run program program.schedule).history
      ≡ made_by (opening_world program) program.schedule
  counted-is =
      ap (turns_made program) (history-is (opening_world program) program.schedule)
      ∙ made-is (opening_world program) program.schedule

  stretches-scheduled : (before : List MadeTurn) (w : World) (actors : List ℕ)
      → map stretch_of (ended_after (counted_turns before) (made_by w actors))
      ≡ stretches_in Thread before (scheduled_turns program w actors)
  stretches-scheduled before w [] = refl
  stretches-scheduled before w (a ∷ actors) = from (system_turn program w a).answer refl
      (stretches-scheduled (before ++ scheduled_turn program w a ∷ []) (system_turn program w a).world actors)
    where
      made : MadeTurn
      made = scheduled_turn program w a

      more : (x : TurnAnswer) → (system_turn program w a).answer ≡ x
          → counted_turns (before ++ made ∷ []) ≡ counted_turns before ++ counted_turn a x
      more x is =
          flat_map-append (λ (m : MadeTurn). counted_turn m.actor m.turn.answer) before (made ∷ [])
          ∙ ap (λ ts. counted_turns before ++ ts)
          (append-nil (counted_turn a (system_turn program w a).answer) ∙ ap (counted_turn a) is)

      from : (x : TurnAnswer) → (system_turn program w a).answer ≡ x
          → map stretch_of (ended_after (counted_turns (before ++ made ∷ []))
          (made_by (system_turn program w a).world actors)) ≡ stretches_in Thread (before ++ made ∷ [])
          (scheduled_turns program (system_turn program w a).world actors)
          → map stretch_of
          (ended_after (counted_turns before) (counted_turn a x ++ made_by (system_turn program w a).world actors))
          ≡ stretches_in Thread before (made ∷ scheduled_turns program (system_turn program w a).world actors)
      from (Answered e r) is later =
          let turn : ActorTurn = record { actor = a; answer = Answered e r } in
          ap (λ (ts : List ActorTurn). stretch_of (own_end ts turn) ∷ map stretch_of
          (ended_after ts (made_by (system_turn program w a).world actors))) (sym (more (Answered e r) is))
          ∙ ap (λ (ss : List Stretch). stretch_of (own_end (counted_turns (before ++ made ∷ [])) turn) ∷ ss) later
          ∙ ap (λ (x : TurnAnswer). flat_map (turn_stretches Thread w.state)
          (map (own_end (counted_turns (before ++ made ∷ []))) (counted_turn a x)) ++ stretches_in Thread
          (before ++ made ∷ []) (scheduled_turns program (system_turn program w a).world actors)) (sym is)
      from Ended is later =
          ap (λ (ts : List ActorTurn). map stretch_of (ended_after ts (made_by (system_turn program w a).world actors)))
          (sym (more Ended is ∙ append-nil (counted_turns before)))
          ∙ later
          ∙ ap (λ (x : TurnAnswer). flat_map (turn_stretches Thread w.state)
          (map (own_end (counted_turns (before ++ made ∷ []))) (counted_turn a x)) ++ stretches_in Thread
          (before ++ made ∷ []) (scheduled_turns program (system_turn program w a).world actors)) (sym is)

  world-scheduled : (w : World) (actors : List ℕ)
      → system_after program w actors ≡ world_after_turns w (scheduled_turns program w actors)
  world-scheduled w [] = refl
  world-scheduled w (a ∷ actors) = world-scheduled (system_turn program w a).world actors

  commands-scheduled : (w : World) (actors : List ℕ) → [] ≡ commands_in (scheduled_turns program w actors)
  commands-scheduled w [] = refl
  commands-scheduled w (a ∷ actors) = commands-scheduled (system_turn program w a).world actors

-- ---- the order of time

-- the stretch of a turn in the order of time
abbrev pub timed_stretch : TimedTurn → Stretch
timed_stretch done = stretch_of (ended_in_time done)

stretches-timed : (before : List MadeTurn) (w : World) (turns : List TimedTurn)
    → map timed_stretch turns ≡ stretches_in Thread before (turns_in_time w turns)
stretches-timed before w [] = refl
stretches-timed before w (t ∷ turns) = ap (λ (ss : List Stretch). timed_stretch t ∷ ss)
    (stretches-timed (before ++ turn_in_time w t ∷ []) t.turn.world turns)

columns-timed : (before : List MadeTurn) (w : World) (turns : List TimedTurn)
    → currency_stretches_from w.state turns ≡ stretches_in Currency before (turns_in_time w turns)
columns-timed before w [] = refl
columns-timed before w (t ∷ turns) =
    let here = turn_stretches Currency w.state (ended_in_time t) in
    ap (λ (ss : List Stretch). here ++ ss) (columns-timed (before ++ turn_in_time w t ∷ []) t.turn.world turns)
    ∙ ap (λ (ss : List Stretch). ss ++ stretches_in Currency (before ++ turn_in_time w t ∷ [])
    (turns_in_time t.turn.world turns)) (sym (append-nil here))

all-timed : (what : By) (program : Program) → timed_stretches_by what program
    ≡ stretches_in what [] (turns_in_time (opening_world program) (timed_turns program))
all-timed Thread program = stretches-timed [] (opening_world program) (timed_turns program)
all-timed Currency program = columns-timed [] (opening_world program) (timed_turns program)

commands-timed : (w : World) (turns : List TimedTurn) → map (λ (done : TimedTurn). done.time)
    (filter (λ done. done.actor == 0) turns) ≡ commands_in (turns_in_time w turns)
commands-timed w [] = refl
commands-timed w (t ∷ turns) = at (t.actor == 0) (commands-timed t.turn.world turns)
  where
    others : List TimedTurn
    others = filter (λ done. done.actor == 0) turns

    at : (b : Bool) → map (λ (done : TimedTurn). done.time) others ≡ commands_in (turns_in_time t.turn.world turns)
        → map (λ (done : TimedTurn). done.time)
        (cond b (t ∷ others) others) ≡ cond b (t.time ∷ []) [] ++ commands_in (turns_in_time t.turn.world turns)
    at true rest = ap (λ ts. t.time ∷ ts) rest
    at false rest = rest

world-timed : (m : Moment) (turns : List TimedTurn)
    → (moment_after_all m turns).world ≡ world_after_turns m.world (turns_in_time m.world turns)
world-timed m [] = refl
world-timed m (t ∷ turns) = world-timed (moment_after m t) turns

-- ---- the curves

scheduled-are : (program : Program) → program.duration ≡ None
    → curves_of program ≡ curves_after Thread program (program_turns program)
scheduled-are program is =
    let turns : turns_by program None ≡ program_turns program = ap (turns_by program) (sym is) in
    let world : system_run program program.schedule
    ≡ world_after_turns (opening_world program) (program_turns program) =
    world-scheduled program (opening_world program) program.schedule
    ∙ ap (world_after_turns (opening_world program)) turns in
    let stretches : stretches_made program (system_run program program.schedule).history
    ≡ stretches_in Thread [] (program_turns program) =
    ap (λ (ts : List ActorTurn). map stretch_of (ended_after [] ts)) (counted-is program)
    ∙ stretches-scheduled program [] (opening_world program) program.schedule ∙ ap (stretches_in Thread []) turns in
    let curves : curves_of program ≡ scheduled_curves program = rw is refl in
    let commands : [] ≡ commands_in (program_turns program) =
    commands-scheduled program (opening_world program) program.schedule ∙ ap commands_in turns in
    curves ∙ (λ i. record { by = Thread; names = names_by Thread (world i).state; stretches = stretches i; origin = 0; window = None; commands = commands i })

timed-are : (what : By) (program : Program) (duration : ℕ) → program.duration ≡ Some duration
    → curves_by what program ≡ curves_after what program (program_turns program)
timed-are what program duration is =
    let turns : turns_by program (Some duration) ≡ program_turns program = ap (turns_by program) (sym is) in
    let world : system_run program (timed_schedule program)
    ≡ world_after_turns (opening_world program) (program_turns program) =
    sym (timed-world program) ∙ world-timed (opening_moment program) (timed_turns program)
    ∙ ap (world_after_turns (opening_world program)) turns in
    let stretches : timed_stretches_by what program ≡ stretches_in what [] (program_turns program) =
    all-timed what program ∙ ap (stretches_in what []) turns in
    let curves : curves_by what program ≡ timed_curves_by what program = rw is refl in
    let commands : command_times program ≡ commands_in (program_turns program) =
    commands-timed (opening_world program) (timed_turns program) ∙ ap commands_in turns in
    curves ∙ (λ i. record { by = what; names = names_by what (world i).state; stretches = stretches i; origin = 0; window = None; commands = commands i })

pub curves-are : (program : Program) (d : Option ℕ) → program.duration ≡ d
    → curves_of program ≡ curves_after Thread program (program_turns program)
curves-are program None is = scheduled-are program is
curves-are program (Some duration) is = timed-are Thread program duration is

pub timed-curves-are : (what : By) (program : Program) (d : Option ℕ) → program.duration ≡ d → IsSome program.duration
    → curves_by what program ≡ curves_after what program (program_turns program)
timed-curves-are what program None is some = let none : false ≡ true = subst IsSome is some in cc
timed-curves-are what program (Some duration) is some = timed-are what program duration is

-- without a duration they are by thread
pub untimed-curves-are : (what : By) (program : Program) → program.duration ≡ None
    → curves_after Thread program (program_turns program) ≡ curves_by what program
untimed-curves-are what program is =
    let same : curves_of program ≡ curves_by what program = rw is refl in
    sym (scheduled-are program is) ∙ same
