-- A system's fields with one turn more.
use Rattle.lot_engine.proofs.Common.{Answered, AreCounts, Bool, Counts, Event, HistorySize, IsCount, IsHeld, IsLegal, IsLegalInTime, IsProgram, IsSmall, List, Place, Program, Reply, State, ap, arith, count_by, counted_with, false, is_some, length, refl, step, sym, system_run, system_turn, true, turns_made, ℕ, [], ◌++◌, ◌+◌, ◌<◌, ◌==◌, ◌∙◌, ◌∷◌, ◌≡◌, ◌≤◌}
use Rattle.lot_machine.specs.declared.event.Event.TheVariants as event
use Rattle.lot_engine.proofs.CountFacts.{each-after, each-other, total-after}
use Rattle.lot_engine.proofs.WakeFacts.{wake-answer, wake-held}
use Rattle.lot_engine.proofs.Runs.{system_run-one_more, past-more}
use Rattle.lot_engine.proofs.TurnFacts.{count-console, count-processor, in_time-more, legal-more}

-- The invariant of a system: `seeded` and `counted` are how many generators and counters it has, and `spots` and
-- `turns` for how many threads and turns it has room.
abbrev pub Holds : Program → ℕ → Bool → Bool → List ℕ → State → List Place → List ℕ → ℕ → List ℕ → ℕ → List Counts → ℕ
    → Counts → ℕ → HistorySize → Type 0
Holds input room wide timer history state places generators seeded tickets spent each counted total spots turns =
    record {
      program : IsProgram input;
      legal : timer ≡ false → IsLegal input room history;
      in_time : IsLegalInTime input room history;
      held : IsHeld input (system_run input history) state places generators tickets spent;
      generators : seeded ≡ input.limits.processors;
      wide : wide ≡ is_some input.duration;
      past : (system_run input history).history ≡ history;
      spent : spent ≡ count_by (λ actor. actor == 0) history;
      counts : counted ≡ input.limits.processors + 1;
      each_counted : AreCounts (turns_made input history) (length history) each;
      total_counted : IsCount (turns_made input history) (length history) total;
      threads : input.limits.threads ≤ spots;
      wakes : timer ≡ true → room ≤ turns.wakes;
      processors : turns.processors ≡ input.limits.processors;
      room : room ≤ turns.turns;
    }

module _ (program : Program) (room : ℕ) (wide timer : Bool) (history : List ℕ) (s : State) (places : List Place)
    (generators : List ℕ) (seeded : ℕ) (tickets : List ℕ) (spent : ℕ) (counts : List Counts) (counted : ℕ)
    (total : Counts) (spots : ℕ) (turns : HistorySize)
    (i : Holds program room wide timer history s places generators seeded tickets spent counts counted total spots
    turns) (actor : ℕ) (below : length history < room)
    (e : Event) (r : Reply)
    (answer : (system_turn program (system_run program history) actor).answer ≡ Answered e r) where
  -- a turn of any actor
  pub one-more : (timer ≡ false → IsLegal program room (history ++ actor ∷ []))
      → IsLegalInTime program room (history ++ actor ∷ [])
      → (after : State) (now : List Place) (next named : List ℕ) (gone : ℕ)
      → IsHeld program (system_turn program (system_run program history) actor).world after now next named gone
      → gone ≡ count_by (λ a. a == 0) (history ++ actor ∷ [])
      → (seeds : ℕ) → seeds ≡ seeded → (each : List Counts)
      → AreCounts (turns_made program history ++ record { actor = actor; answer = Answered e r } ∷ [])
      (length history + 1) each → (many : ℕ) → many ≡ counted
      → (sum : Counts) → sum ≡ counted_with total r → IsSmall (length history + 1) sum
      → (wider : ℕ) (longer : HistorySize) → wider ≡ spots → longer ≡ turns
      → Holds program room wide timer (history ++ actor ∷ []) after now next seeds named gone each many sum wider longer
  one-more legal in_time after now next named gone held is seeds seeds-same each exact many many-same sum sum-exact
      small wider longer wider-same longer-same = record {
        program = i.program;
        legal = legal;
        in_time = in_time;
        held = rw (system_run-one_more program history actor) held;
        generators = seeds-same ∙ i.generators;
        wide = i.wide;
        past = past-more program history actor e r i.past answer;
        spent = is;
        counts = many-same ∙ i.counts;
        each_counted = each-after program history actor e r answer each exact;
        total_counted = total-after program history actor e r answer total sum i.total_counted sum-exact small;
        threads = rw wider-same i.threads;
        room = rw longer-same i.room;
        wakes = rw longer-same i.wakes;
        processors = rw longer-same i.processors;
      }

  -- a turn of a processor
  pub processor-more : 0 < actor → actor ≤ program.limits.processors
      → (after : State) (now : List Place) (next : List ℕ)
      → IsHeld program (system_turn program (system_run program history) actor).world after now next tickets spent
      → (seeds : ℕ) → seeds ≡ seeded → (each : List Counts)
      → AreCounts (turns_made program history ++ record { actor = actor; answer = Answered e r } ∷ [])
      (length history + 1) each → (many : ℕ) → many ≡ counted
      → (sum : Counts) → sum ≡ counted_with total r → IsSmall (length history + 1) sum
      → (wider : ℕ) (longer : HistorySize) → wider ≡ spots → longer ≡ turns
      → Holds program room wide timer
      (history ++ actor ∷ []) after now next seeds tickets spent each many sum wider longer
  processor-more some there after now next held =
      let count = count-processor history actor some in
      one-more (λ none. legal-more program room history actor (i.legal none) there below
      (omega (arith, count, i.in_time.console))) (in_time-more program room history actor below
      (omega (arith, count, i.in_time.console))) after now next tickets spent held (omega (arith, count, i.spent))

-- a turn of the console
module _ (program : Program) (room : ℕ) (wide timer : Bool) (history : List ℕ) (s : State) (places : List Place)
    (generators : List ℕ) (seeded : ℕ) (tickets : List ℕ) (spent : ℕ) (counts : List Counts) (counted : ℕ)
    (total : Counts) (spots : ℕ) (turns : HistorySize)
    (i : Holds program room wide timer history s places generators seeded tickets spent counts counted total spots
    turns) (below : length history < room)
    (e : Event) (r : Reply) (answer : (system_turn program (system_run program history) 0).answer ≡ Answered e r) where
  pub console-more : spent < length program.commands → (after : State) (now : List Place) (named : List ℕ)
      → IsHeld program (system_turn program (system_run program history) 0).world after now generators named (spent + 1)
      → (each : List Counts)
      → AreCounts (turns_made program history ++ record { actor = 0; answer = Answered e r } ∷ [])
      (length history + 1) each → (many : ℕ) → many ≡ counted
      → (sum : Counts) → sum ≡ counted_with total r → IsSmall (length history + 1) sum
      → (wider : ℕ) (longer : HistorySize) → wider ≡ spots → longer ≡ turns
      → Holds program room wide timer (history ++ 0 ∷ []) after now generators seeded named
      (spent + 1) each many sum wider longer
  console-more left after now named held =
      let count = count-console history in
      one-more program room wide timer history s places generators seeded tickets spent counts counted total spots turns
      i 0 below e r answer
      (λ none. legal-more program room history 0 (i.legal none) (omega arith) below (omega
      (arith, count, i.spent, left))) (in_time-more program room history 0 below (omega (arith, count, i.spent, left)))
      after now generators named (spent + 1) held (omega (arith, count, i.spent)) seeded refl

-- a turn of the timer
module _ (program : Program) (room : ℕ) (wide timer : Bool) (history : List ℕ) (s : State) (places : List Place)
    (generators : List ℕ) (seeded : ℕ) (tickets : List ℕ) (spent : ℕ) (counts : List Counts) (counted : ℕ)
    (total : Counts) (spots : ℕ) (turns : HistorySize)
    (i : Holds program room wide timer history s places generators seeded tickets spent counts counted total spots
    turns) (t : ℕ) (some : 0 < t) (there : timer ≡ true) (below : length history < room)
    (many : length counts ≤ counted) where
  pub timer-more : (after : State) (r : Reply) → after ≡ (step s (event.Wake t)).state
      → r ≡ (step s (event.Wake t)).reply
      → (sum : Counts) → sum ≡ counted_with total r → IsSmall (length history + 1) sum → (longer : HistorySize)
      → longer ≡ turns
      → Holds program room wide timer (history ++ (program.limits.processors + t) ∷ []) after places generators seeded
      tickets spent counts counted sum spots longer
  timer-more after r state replied sum exact small longer same =
      let actor : ℕ = program.limits.processors + t in
      let w = system_run program history in
      let e : Event = event.Wake t in
      let count = count-processor history actor (omega (arith, some)) in
      let replies : r ≡ (step w.state e).reply = replied ∙ ap (λ (x : State). (step x e).reply) i.held.state in
      one-more program room wide timer history s places generators seeded tickets spent counts counted total spots turns
      i actor below e r (wake-answer program w t some r replies)
      (λ none. let never : true ≡ false = sym there ∙ none in cc) (in_time-more program room history actor below
      (omega (arith, count, i.in_time.console))) after places generators tickets spent
      (wake-held program w s places generators tickets spent i.held t some after state)
      (omega (arith, count, i.spent)) seeded refl counts
      (each-other (turns_made program history) (length history) counts (record { actor = actor; answer = Answered e r })
      (omega (arith, many, i.counts, some)) i.each_counted) counted refl sum exact small spots longer refl same
