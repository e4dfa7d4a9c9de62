-- States of reading stay within the bounds of an input.
use Rattle.lot_text.proofs.Common.{All, All-append, All-push, All-same, Command, Err, IsNonDecreasing, IsReading, IsTrue, List, None, Ok, OpenScript, Option, Reading, TooLong, add_naming, after_header, ap, append-nil, arith, body_place, common_steps, false, header_line, le-leb, length, length-append, lt-leb, nat_lt, number_between, refl, sym, true≢false, ℕ, [], ◌++◌, ◌+◌, ◌<◌, ◌∷◌, ◌≡◌, ◌≤◌}
use Rattle.lot_text.proofs.Common.{Gives, LineFault, Result, subst, word_in}
use Rattle.lot_simulation.specs.Grammar.{body_words_of, header_words_of, later_line, line_outside}
use Rattle.lot_simulation.specs.declared.input.HeaderWord.TheVariants as header

-- the body comes after the header
past-header : body_place ≡ 0 → ⊥
past-header none = true≢false (ap (λ (place : ℕ). nat_lt 0 place) none)

-- a command is added, with its time
pub with_timed : (r : Reading) (commands : List Command) (times : List ℕ) (names : List (Option ℕ)) (command : Command)
    → IsReading r → length r.commands < 100000 → IsTrue r.is_timed
    → commands ≡ r.commands ++ command ∷ [] → times ≡ r.times ++ r.time ∷ []
    → IsReading (record r { place = body_place; commands = commands; times = times; names = names })
with_timed r commands times names command read room timed added now = record {
  sizes = read.sizes;
  names = read.names;
  body = record {
    command_count = omega (arith, room, ap length added, length-append r.commands (command ∷ []));
    actors = read.body.actors;
    schedule_length = read.body.schedule_length;
    unscheduled = λ none. absurd (past-header none);
  };
  times = record {
    time_count = λ _. omega (arith, read.times.time_count timed, ap length added, ap length now, length-append r.commands (command ∷ []), length-append r.times (r.time ∷ []));
    running = read.times.running;
    rising = rw now (rising-push r.times r.time read.times.rising read.times.past);
    past = All-same (λ (time : ℕ). time ≤ r.time) _ _ now
        (All-push (λ (time : ℕ). time ≤ r.time) r.times r.time read.times.past (omega arith));
  };
}
  where
    rising-push : (times : List ℕ) (time : ℕ) → IsNonDecreasing times → All (λ (t : ℕ). t ≤ time) times
        → IsNonDecreasing (times ++ time ∷ [])
    rising-push times time rising past = grind (arith, common_steps)

-- so the command is read
pub timed-read : (before r : Reading) (name : Option ℕ) (command : Command) → before ≡ r → IsTrue r.is_timed
    → length r.commands < 100000
    → after_header (add_naming r name command)
    ≡ Ok (record before { place = body_place; commands = before.commands ++ command ∷ []; times = before.times ++ before.time ∷ []; names = before.names ++ name ∷ [] })
timed-read before r name command same timed room = rw (same, lt-leb 100000 (length r.commands) room, timed) refl

-- limits are read from left to right
pub limits-read : (before r : Reading) (first second third : List ℕ) (tickets currencies threads : ℕ) → before ≡ r
    → Ok tickets ≡ number_between 1 65535 first
    → Ok currencies ≡ number_between 1 4096 second → Ok threads ≡ number_between 1 4096 third
    → header_line r header.Limits (first ∷ second ∷ third ∷ [])
    ≡ Ok (record before { tickets = tickets; currencies = currencies; threads = threads })
limits-read before r first second third tickets currencies threads same is_tickets is_currencies is_threads =
    rw (← same, ← is_tickets, ← is_currencies, ← is_threads) refl

-- so the command is read
pub naming-read : (before r : Reading) (name : Option ℕ) (command : Command) → before ≡ r → before.is_timed ≡ false
    → length before.commands < 100000
    → after_header (add_naming r name command)
    ≡ Ok (record before { place = body_place; commands = before.commands ++ command ∷ [] })
naming-read before r name command same untimed room =
    rw (← same, lt-leb 100000 (length before.commands) room, untimed, append-nil before.names, append-nil before.times)
    refl

-- or there are as many as are allowed
pub naming-full : (before r : Reading) (name : Option ℕ) (command : Command) → before ≡ r
    → 100000 ≤ length before.commands
    → after_header (add_naming r name command) ≡ Err TooLong
naming-full before r name command same full = rw (← same, le-leb 100000 (length before.commands) full) refl

-- entries are added to the schedule
pub with_schedule : (r : Reading) (schedule more : List ℕ) → IsReading r
    → All (λ (actor : ℕ). actor ≤ r.processors) more
    → length r.schedule + length more ≤ 1000000 → schedule ≡ r.schedule ++ more
    → IsReading (record r { place = body_place; schedule = schedule })
with_schedule r schedule more read below room added = record {
  sizes = read.sizes;
  names = read.names;
  body = record {
    command_count = read.body.command_count;
    actors = All-same (λ (actor : ℕ). actor ≤ r.processors) _ _ added
        (All-append (λ (actor : ℕ). actor ≤ r.processors) r.schedule more read.body.actors below);
    schedule_length = omega (arith, room, ap length added, length-append r.schedule more);
    unscheduled = λ none. absurd (past-header none);
  };
  times = read.times;
}

-- ---- a line outside scripts

-- without a script, a later line is one outside scripts
pub outside-script : {U : Type 0} (n : ℕ) (r r' : Reading) (word : List ℕ) (tokens : List (List ℕ)) (now : Reading)
    (result : Result U LineFault) → r ≡ r' → r.unclosed ≡ None
    → Gives now result (line_outside n r' (word_in (header_words_of r') word) (word_in (body_words_of r') word) tokens)
    → Gives now result (later_line n r r.unclosed word tokens)
outside-script n r r' word tokens now result same none gives =
    subst (λ (unclosed : Option OpenScript). Gives now result (later_line n r unclosed word tokens)) (sym none)
    (subst (λ (s : Reading). Gives now result (later_line n s None word tokens)) (sym same) gives)
