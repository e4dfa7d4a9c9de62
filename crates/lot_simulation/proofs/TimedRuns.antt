-- Turns in the order of time are a run of the system, over a legal history.
use Rattle.lot_simulation.proofs.Common.{ActorTurn, Bool, Due, IsLegalInTime, List, Moment, None, Option, Program, Some, TimedTurn, actor_turns, all_due, ap, arith, beside, cond, console_due, count_by, drop, due_first, eqb-true, false, last_moment, length, length-drop, length-map, lit<, map, moment_after, moment_after_all, next_due, opening_moment, refl, suc, sum_by-cons, system_after, system_answers, system_run, system_turn, take, timed_schedule, timed_turns, true, turn_due, turns_from, turns_made, zero, ℕ, [], ◌<◌, ◌==◌, ◌∷◌, ◌≡◌, ◌≤◌}
use Rattle.lot_simulation.specs.Timed.{timed_room}
use Rattle.lot_simulation.proofs.TimesRise.{Each, each-due, earliest-one, first-due}

-- there are fewer turns than a counter can hold
pub room-small : timed_room < 2147483648
unfolding timed_room
room-small = lit< tt

-- whose turns are made from a moment on
abbrev actors_from : Program → ℕ → Moment → List ℕ
actors_from program room m = map (λ done. done.actor) (turns_from program room m)

module _ (program : Program) where
  -- the turns' actors beside their answers are the turns that these actors make
  pub actors-made : (room : ℕ) (m : Moment) → actor_turns (turns_from program room m)
      ≡ beside (actors_from program room m) (system_answers program m.world (actors_from program room m))
  actors-made zero m = refl
  actors-made (suc room) m = from (next_due program m) (λ done. actors-made room (moment_after m done))
    where
      from : (o : Option Due)
          → ((done : TimedTurn) → actor_turns (turns_from program room (moment_after m done))
          ≡ beside (actors_from program room (moment_after m done))
          (system_answers program (moment_after m done).world (actors_from program room (moment_after m done))))
          → actor_turns (due_first program m (λ done. turns_from program room (moment_after m done)) o) ≡ beside
          (map (λ done. done.actor) (due_first program m (λ done. turns_from program room (moment_after m done)) o))
          (system_answers program m.world
          (map (λ done. done.actor) (due_first program m (λ done. turns_from program room (moment_after m done)) o)))
      from None more = refl
      from (Some due) more = ap (λ (ts : List ActorTurn).
          record { actor = due.actor; answer = (system_turn program m.world due.actor).answer } ∷ ts)
          (more (turn_due program m due))

  -- they lead to the world that a run of these actors leads to
  world-after : (room : ℕ) (m : Moment) → (moment_after_all m (turns_from program room m)).world
      ≡ system_after program m.world (actors_from program room m)
  world-after zero m = refl
  world-after (suc room) m = from (next_due program m) (λ done. world-after room (moment_after m done))
    where
      from : (o : Option Due)
          → ((done : TimedTurn)
          → (moment_after_all (moment_after m done) (turns_from program room (moment_after m done))).world
          ≡ system_after program (moment_after m done).world (actors_from program room (moment_after m done)))
          → (moment_after_all m (due_first program m (λ done. turns_from program room (moment_after m done)) o)).world
          ≡ system_after program m.world
          (map (λ done. done.actor) (due_first program m (λ done. turns_from program room (moment_after m done)) o))
      from None more = refl
      from (Some due) more = more (turn_due program m due)

  pub turns-few : (room : ℕ) (m : Moment) → length (turns_from program room m) ≤ room
  turns-few zero m = omega arith
  turns-few (suc room) m = from (next_due program m) (λ done. turns-few room (moment_after m done))
    where
      from : (o : Option Due) → ((done : TimedTurn) → length (turns_from program room (moment_after m done)) ≤ room)
          → length (due_first program m (λ done. turns_from program room (moment_after m done)) o) ≤ suc room
      from None more = omega arith
      from (Some due) more = omega (arith, more (turn_due program m due))

  -- ---- whose turn may come next

  -- if it is the console's, a command is left
  abbrev pub IsThere : Moment → Due → Type 0
  IsThere m due = due.actor ≡ 0 → 0 < length m.times

  console-there : (m : Moment) → Each (IsThere m) (console_due m)
  console-there m = at m.times refl
    where
      at : (times : List ℕ) → m.times ≡ times
          → Each (IsThere m) (map (λ time. record { time = time; actor = 0 }) (take 1 times))
      at [] is = tt
      at (t ∷ ts) is = ((λ _. omega (arith, ap length is)), tt)

  pub due-there : (m : Moment) (due : Due) → next_due program m ≡ Some due → IsThere m due
  due-there m due is =
      earliest-one (IsThere m) (all_due program m) due
      (each-due (IsThere m) program m (console-there m) (λ t time low high _ e. absurd (omega (arith, low, e)))
      (λ p low high _ e. absurd (omega (arith, low, e))))
      (first-due program m due is)

  -- ---- the history is legal

  -- the console has no more of these turns than commands are left
  abbrev CanFollow : Moment → List ℕ → Type 0
  CanFollow m actors = count_by (λ actor. actor == 0) actors ≤ length m.times

  follows : (room : ℕ) (m : Moment) → CanFollow m (actors_from program room m)
  follows zero m = omega arith
  follows (suc room) m = at (next_due program m) refl (λ done. follows room (moment_after m done))
    where
      counted : (m : Moment) (actor : ℕ) (others : List ℕ) → (actor ≡ 0 → 0 < length m.times)
          → count_by (λ a. a == 0) others ≤ length (cond (actor == 0) (drop 1 m.times) m.times)
          → count_by (λ a. a == 0) (actor ∷ others) ≤ length m.times
      counted m actor others some few = from (actor == 0) refl few
        where
          from : (b : Bool) → (actor == 0) ≡ b → count_by (λ a. a == 0) others
              ≤ length (cond b (drop 1 m.times) m.times) → count_by (λ a. a == 0) (actor ∷ others) ≤ length m.times
          from true is few = let tested : cond (actor == 0) 1 0 ≡ 1 = ap {B = ℕ} (λ b. cond b 1 0) is in
              omega (arith, sum_by-cons (λ (a : ℕ). cond (a == 0) 1 0) actor others, tested, some (eqb-true actor 0 is), length-drop 1 m.times, few)
          from false is few = let tested : cond (actor == 0) 1 0 ≡ 0 = ap {B = ℕ} (λ b. cond b 1 0) is in
              omega (arith, sum_by-cons (λ (a : ℕ). cond (a == 0) 1 0) actor others, tested, few)

      at : (o : Option Due) → next_due program m ≡ o
          → ((done : TimedTurn) → CanFollow (moment_after m done) (actors_from program room (moment_after m done)))
          → CanFollow m
          (map (λ done. done.actor) (due_first program m (λ done. turns_from program room (moment_after m done)) o))
      at None is later = omega arith
      at (Some due) is later =
          let there = due-there m due is in
          let done = turn_due program m due in
          counted m due.actor (actors_from program room (moment_after m done)) there (later done)

  pub timed-legal : length program.times ≡ length program.commands
      → IsLegalInTime program timed_room (timed_schedule program)
  timed-legal each =
      let all = follows timed_room (opening_moment program) in
      record {
        within_room = omega (arith, length-map (timed_turns program) (λ (done : TimedTurn). done.actor), turns-few timed_room (opening_moment program));
        console = omega (arith, all, each);
      }

  pub timed-made : actor_turns (timed_turns program) ≡ turns_made program (timed_schedule program)
  timed-made = actors-made timed_room (opening_moment program)

  pub timed-world : (last_moment program).world ≡ system_run program (timed_schedule program)
  timed-world = world-after timed_room (opening_moment program)
