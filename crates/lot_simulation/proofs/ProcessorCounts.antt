-- The console and the timer win no draws and use no ticks, so the processors' counts add up to the total.
use Rattle.lot_simulation.proofs.Common.{ActorTurn, Bool, Command, List, None, Option, Program, Refusal, Reply, Some, State, Step, World, arith, beside, cases_lt, command_effect, command_refusal, command_step, cond, console_turn, count_in, eq-eqb, eqb-false, event_refusal, false, idles_in, inl, inr, leb-true, nat_le, ne_eqb, next_name, opening_world, processor_event, processor_turn, quanta_in, range_with_len, refl, resolved, step, sum-at_most, sum-nothing, sum-one, sum-plus, sum-same, sum_by, sum_by-cons, sym, system_answers, system_turn, ticks_in, total_of, true, turns_made, turns_of, unless_refused, wake, ℕ, [], ◌+◌, ◌-◌, ◌<◌, ◌==◌, ◌∙◌, ◌∷◌, ◌≡◌, ◌≤◌, ◌⊎◌}
use Rattle.lot_machine.specs.declared.command.Command.TheVariants.{List as Listing}
use Rattle.lot_machine.specs.declared.event.Event.TheVariants as event

-- nothing is counted in the reply
abbrev pub IsSilent : Reply → Type 0
IsSilent r = (quanta_in r ≡ 0) × (idles_in r ≡ 0) × (ticks_in r ≡ 0)

unless-silent : (s : State) (o : Option Refusal) (next : Step) → IsSilent next.reply
    → IsSilent (unless_refused s o next).reply
unless-silent s None next is = is
unless-silent s (Some refusal) next is = (refl, refl, refl)

pub command-silent : (s : State) (c : Command) → IsSilent (command_step s c).reply
command-silent s (Listing kind) = (refl, refl, refl)
command-silent s other = unless-silent s (command_refusal s other) (command_effect s other) (refl, refl, refl)

-- so is a wake
pub wake-silent : (s : State) (t : ℕ) → IsSilent (step s (event.Wake t)).reply
wake-silent s t = unless-silent s (event_refusal s (event.Wake t)) (wake s t) (refl, refl, refl)

-- one turn more of some actor
turns-cons : (count : Reply → ℕ) (p : ℕ) (turn : ActorTurn) (turns : List ActorTurn)
    → total_of count (turns_of p (turn ∷ turns)) ≡ cond (turn.actor == p)
    (count_in count turn.answer) 0 + total_of count (turns_of p turns)
turns-cons count p turn turns = at (turn.actor == p)
  where
    at : (b : Bool) → total_of count (cond b (turn ∷ turns_of p turns) (turns_of p turns))
        ≡ cond b (count_in count turn.answer) 0 + total_of count (turns_of p turns)
    at true = sum_by-cons (λ (t : ActorTurn). count_in count t.answer) turn (turns_of p turns)
    at false = omega arith

module _ (count : Reply → ℕ) (silent : (s : State) (c : Command) → count (command_step s c).reply ≡ 0)
    (wakes : (s : State) (t : ℕ) → count (step s (event.Wake t)).reply ≡ 0) (program : Program) where
  console-silent : (w : World) (commands : List Command) → count_in count (console_turn program w commands).answer ≡ 0
  console-silent w [] = refl
  console-silent w (c ∷ cs) = silent w.state (resolved w.tickets (next_name w) c)

  -- an actor that is no processor counts nothing
  others-silent : (w : World) (actor : ℕ) → ¬ ((1 ≤ actor) × (actor ≤ program.limits.processors))
      → count_in count (system_turn program w actor).answer ≡ 0
  others-silent w actor other = at (actor == 0) (nat_le actor program.limits.processors) refl refl
    where
      at : (b c : Bool) → (actor == 0) ≡ b → nat_le actor program.limits.processors ≡ c
          → count_in count (cond b (console_turn program w w.commands) (processor_turn w actor
          (cond c (processor_event w actor) (event.Wake (actor - program.limits.processors))))).answer ≡ 0
      at true c is among = console-silent w w.commands
      at false true is among = absurd (from (eqb-false actor 0 is) (leb-true actor program.limits.processors among))
        where
          from : ¬ (actor ≡ 0) → actor ≤ program.limits.processors → ⊥
          from some high = other (omega (arith, some), high)
      at false false is among = wakes w.state (actor - program.limits.processors)

  -- what is counted of a turn is counted of its processor, if anything is
  own-counts : (w : World) (actor : ℕ)
      → sum_by (λ p. cond (actor == p) (count_in count (system_turn program w actor).answer) 0)
      (range_with_len 1 program.limits.processors) ≡ count_in count (system_turn program w actor).answer
  own-counts w actor = at (cases_lt actor 1) (cases_lt program.limits.processors actor)
    where
      amount : ℕ
      amount = count_in count (system_turn program w actor).answer

      apart : (k : ℕ) → ¬ (k ≡ actor) → (actor == k) ≡ false
      apart k differs = ne_eqb actor k (λ same. differs (sym same))

      none : ¬ ((1 ≤ actor) × (actor ≤ program.limits.processors))
          → sum_by (λ p. cond (actor == p) amount 0) (range_with_len 1 program.limits.processors) ≡ amount
      none other = omega (arith, others-silent w actor other, sum-at_most (λ p. actor == p) amount actor apart 1 program.limits.processors)

      at : (actor < 1) ⊎ (1 ≤ actor) → (program.limits.processors < actor) ⊎ (actor ≤ program.limits.processors)
          → sum_by (λ p. cond (actor == p) amount 0) (range_with_len 1 program.limits.processors) ≡ amount
      at (inr low) (inr high) = sum-one (λ p. actor == p) amount actor apart
          (eq-eqb actor actor refl) 1 program.limits.processors low (omega (arith, high))
      at (inl few) high = none (λ h. omega (arith, few, h.0))
      at (inr low) (inl many) = none (λ h. omega (arith, many, h.1))

  turns-add_up : (w : World) (actors : List ℕ)
      → sum_by (λ p. total_of count (turns_of p (beside actors (system_answers program w actors))))
      (range_with_len 1 program.limits.processors) ≡ total_of count (beside actors (system_answers program w actors))
  turns-add_up w [] = sum-nothing (range_with_len 1 program.limits.processors)
  turns-add_up w (actor ∷ actors) =
      let turn : ActorTurn = record { actor = actor; answer = (system_turn program w actor).answer } in
      let others = beside actors (system_answers program (system_turn program w actor).world actors) in
      let numbers = range_with_len 1 program.limits.processors in
      sum-same (λ p. total_of count (turns_of p (turn ∷ others))) (λ p. cond (actor == p)
      (count_in count turn.answer) 0 + total_of count (turns_of p others)) numbers (λ p. turns-cons count p turn others)
      ∙ sum-plus (λ p. cond (actor == p) (count_in count turn.answer) 0)
      (λ p. total_of count (turns_of p others)) numbers
      ∙ omega (arith, own-counts w actor, turns-add_up (system_turn program w actor).world actors, sum_by-cons (λ (t : ActorTurn). count_in count t.answer) turn others)

  processors-add_up : (history : List ℕ) → sum_by (λ p. total_of count (turns_of p (turns_made program history)))
      (range_with_len 1 program.limits.processors) ≡ total_of count (turns_made program history)
  processors-add_up history = turns-add_up (opening_world program) history

module _ (program : Program) (history : List ℕ) where
  pub quanta-of_processors : sum_by (λ p. total_of quanta_in (turns_of p (turns_made program history)))
      (range_with_len 1 program.limits.processors) ≡ total_of quanta_in (turns_made program history)
  quanta-of_processors =
      processors-add_up quanta_in (λ s c. (command-silent s c).0) (λ s t. (wake-silent s t).0) program history

  pub idles-of_processors : sum_by (λ p. total_of idles_in (turns_of p (turns_made program history)))
      (range_with_len 1 program.limits.processors) ≡ total_of idles_in (turns_made program history)
  idles-of_processors =
      processors-add_up idles_in (λ s c. (command-silent s c).1) (λ s t. (wake-silent s t).1) program history

  pub ticks-of_processors : sum_by (λ p. total_of ticks_in (turns_of p (turns_made program history)))
      (range_with_len 1 program.limits.processors) ≡ total_of ticks_in (turns_made program history)
  ticks-of_processors =
      processors-add_up ticks_in (λ s c. (command-silent s c).2) (λ s t. (wake-silent s t).2) program history
