-- The totals of a system's history with one turn more.
use Rattle.lot_station.proofs.Common.{All-pop, Answer, Answers, AtSome, Counts, Faults, Goes, Holder, IsLegal, IsWorkOf, List, Option, Parts, Program, Reply, Seen, Setting, Some, TurnFault, after_turn, ap, arith, cond, counted, counted-one_more, counted_with, length, length-append, quanta_in, refl, subst, sum_by_push, sym, ticks_in, total_of, turns_in, with_turn, ℕ, [], ◌++◌, ◌+◌, ◌==◌, ◌∙◌, ◌∷◌, ◌≡◌, ◌≤◌}

-- ---- the totals

module _ (old new : Seen) (actor : ℕ) (answer : Answer) (total : Counts) (made : new ≡ after_turn old actor)
    (answers : Answers old actor answer) (is : total ≡ counted (turns_in new)) where
  grown : total ≡ counted_with (counted (turns_in old)) answer.reply
  grown =
      is ∙ ap (λ (x : Seen). counted (turns_in x)) made
      ∙ counted-one_more old.setting.program old.history actor answer.event answer.reply answers.turn

  pub more_quanta : (q n : ℕ) → q ≡ total_of quanta_in (turns_in old) → n ≡ quanta_in answer.reply
      → q + n ≡ total.quanta
  more_quanta q n all more = (λ i. all i + more i) ∙ sym (ap (λ (c : Counts). c.quanta) grown)

  pub more_ticks : (k n : ℕ) → k ≡ total_of ticks_in (turns_in old) → n ≡ ticks_in answer.reply → k + n ≡ total.ticks
  more_ticks k n all more = (λ i. all i + more i) ∙ sym (ap (λ (c : Counts). c.ticks) grown)

-- one turn more, in the history and in the book of turns
pub more_turns : (old new : Seen) (actor : ℕ) → new ≡ after_turn old actor → (t n : ℕ) → t ≡ length old.history
    → n ≡ length new.history → t + 1 ≡ n
more_turns old new actor made t n all is =
    omega (arith, all, is, ap (λ (x : Seen). length x.history) made, length-append old.history (actor ∷ []))

-- the seat with one turn more, from its fields
pub turned_once : (seat : Holder) (actor t q k t' q' k' n m : ℕ) (stopped : Option TurnFault) (reply : Reply)
    → record { actor = actor; turns = t; quanta = q; ticks = k; stopped = stopped } ≡ seat → t' ≡ t + 1 → q' ≡ q + n
    → k' ≡ k + m → n ≡ quanta_in reply → m ≡ ticks_in reply
    → record { actor = actor; turns = t'; quanta = q'; ticks = k'; stopped = stopped } ≡ with_turn seat reply
turned_once seat actor t q k t' q' k' n m stopped reply is turns quanta ticks won spent =
    (λ i. record { actor = actor; turns = turns i; quanta = (quanta ∙ ap (λ x. q + x) won) i; ticks = (ticks ∙ ap (λ x. k + x) spent) i; stopped = stopped })
    ∙ ap (λ (h : Holder). with_turn h reply) is

-- ---- legal histories

-- a history that is legal with one turn more was so before
legal_before : (program : Program) (room : ℕ) (history : List ℕ) (actor : ℕ)
    → IsLegal program room (history ++ actor ∷ []) → IsLegal program room history
legal_before program room history actor legal =
    record {
      actors = (All-pop (λ (a : ℕ). a ≤ program.limits.processors) (history ++ actor ∷ []) history
          (Some actor) refl legal.actors).0;
      within_room = omega (arith, legal.within_room, length-append history (actor ∷ []));
      console = omega (arith, legal.console, sum_by_push (λ a. cond (a == 0) 1 0) history actor);
    }

-- a fault is one that the system has after the history that it has
pub faulted_at : (setting : Setting) (old new : Seen) (actor named : ℕ) (given : Option Parts) (fault : TurnFault)
    → old.setting ≡ setting → actor ≡ named → Faults old actor given fault → new ≡ old
    → IsLegal new.setting.program new.setting.room new.history → AtSome setting (λ x. Faults x named given fault)
faulted_at setting old new actor named given fault is same faults stays legal =
    let before = subst (λ (x : Seen). IsLegal x.setting.program x.setting.room x.history) stays legal in
    let here : AtSome old.setting (λ x. Faults x actor given fault) =
    record { history = old.history; legal = before; is_so = faults } in
    subst (λ a. AtSome setting (λ x. Faults x a given fault)) same
    (subst (λ s. AtSome s (λ x. Faults x actor given fault)) is here)

-- what a turn answers is so at the system's own history
pub answered_at : (setting : Setting) (old new : Seen) (actor named : ℕ) (given : Option Parts) (answer : Answer)
    → old.setting ≡ setting → actor ≡ named → Goes old actor given → new ≡ after_turn old actor
    → Answers old actor answer
    → IsLegal new.setting.program new.setting.room new.history
    → AtSome setting (λ x. Goes x named given × Answers x named answer)
answered_at setting old new actor named given answer is same goes made answers legal =
    let before = legal_before old.setting.program old.setting.room old.history actor
    (subst (λ (x : Seen). IsLegal x.setting.program x.setting.room x.history) made legal) in
    let here : AtSome old.setting (λ x. Goes x actor given × Answers x actor answer) =
    record { history = old.history; legal = before; is_so = (goes, answers) } in
    subst (λ a. AtSome setting (λ x. Goes x a given × Answers x a answer)) same
    (subst (λ s. AtSome s (λ x. Goes x actor given × Answers x actor answer)) is here)

-- the next work is that at the history with the turn
pub next_at : (setting : Setting) (old new : Seen) (actor named : ℕ) (answer : Answer) → old.setting ≡ setting
    → actor ≡ named → new ≡ after_turn old actor → Answers old actor answer
    → IsLegal new.setting.program new.setting.room new.history → AtSome setting (λ x. IsWorkOf x named answer.next)
next_at setting old new actor named answer is same made answers legal =
    let after = subst (λ (x : Seen). IsLegal x.setting.program x.setting.room x.history) made legal in
    let here : AtSome old.setting (λ x. IsWorkOf x actor answer.next) =
    record { history = old.history ++ actor ∷ []; legal = after; is_so = answers.next } in
    subst (λ a. AtSome setting (λ x. IsWorkOf x a answer.next)) same
    (subst (λ s. AtSome s (λ x. IsWorkOf x actor answer.next)) is here)
