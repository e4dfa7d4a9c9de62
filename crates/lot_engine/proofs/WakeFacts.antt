-- A turn of the timer.
use Rattle.lot_engine.proofs.Common.{Answered, AreAt, IsHeld, List, None, Option, Place, Program, Refusal, Reply, Some, State, World, ap, arith, contexts_after, event_refusal, false, inl, length, lt-leb, nat_le, ne_eqb, other-sizes, processor_turn, refl, step, system_turn, unless_refused, wake, ℕ, ◌+◌, ◌-◌, ◌<◌, ◌==◌, ◌∙◌, ◌≡◌}
use Rattle.lot_machine.specs.declared.event.Event.TheVariants as event
use Rattle.lot_engine.proofs.TurnFacts.{kept-in}

-- no context changes
wake-contexts : (w : World) (p t : ℕ) → contexts_after w p (step w.state (event.Wake t)).reply ≡ w.contexts
wake-contexts w p t = at (event_refusal w.state (event.Wake t))
  where
    at : (o : Option Refusal) → contexts_after w p (unless_refused w.state o (wake w.state t)).reply ≡ w.contexts
    at None = refl
    at (Some why) = refl

module _ (program : Program) (w : World) (t : ℕ) (some : 0 < t) where
  pub wake-turn : system_turn program w (program.limits.processors + t)
      ≡ processor_turn w (program.limits.processors + t) (event.Wake t)
  wake-turn =
      let actor : ℕ = program.limits.processors + t in
      let no : (actor == 0) ≡ false = ne_eqb actor 0 (λ e. omega (arith, some, e)) in
      let past : nat_le actor program.limits.processors ≡ false =
      lt-leb actor program.limits.processors (omega (arith, some)) in
      let whom : actor - program.limits.processors ≡ t = omega arith in
      rw (no, past, whom) refl

  pub wake-answer : (r : Reply) → r ≡ (step w.state (event.Wake t)).reply
      → (system_turn program w (program.limits.processors + t)).answer ≡ Answered (event.Wake t) r
  wake-answer r replied = rw (wake-turn, replied) refl

module _ (program : Program) (w : World) (s : State) (places : List Place) (seeds tickets : List ℕ) (spent : ℕ)
    (held : IsHeld program w s places seeds tickets spent) (t : ℕ) (some : 0 < t) where
  pub wake-held : (after : State) → after ≡ (step s (event.Wake t)).state
      → IsHeld program (system_turn program w (program.limits.processors + t)).world after places seeds tickets spent
  wake-held after state =
      let actor : ℕ = program.limits.processors + t in
      let sizes = other-sizes s (event.Wake t) (λ same. cc) in
      let now : AreAt program after.threads places (contexts_after w actor (step w.state (event.Wake t)).reply) =
      rw (wake-contexts w actor t, state, sizes.2) held.places_at in
      rw (wake-turn program w t some) (record {
        state = state ∙ ap (λ (x : State). (step x (event.Wake t)).state) held.state;
        kept = kept-in program s after None held.kept
            (record { threads = inl (ap (λ (x : State). x.threads) state ∙ sizes.2); records = ap (λ (x : State). length x.records) state ∙ sizes.1; limits = ap (λ (x : State). x.limits) state ∙ sizes.0 });
        places_at = now;
        seeds = held.seeds;
        wide = held.wide;
        commands = held.commands;
        names = held.names;
        tickets_are = held.tickets_are;
      })
