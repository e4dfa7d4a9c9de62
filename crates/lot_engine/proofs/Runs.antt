-- A run with one turn more.
use Rattle.lot_engine.proofs.Common.{Answered, Command, Event, List, Program, Reply, TurnMade, World, actor_event, ap, arith, console_turn, false, ne_eqb, opening_world, processor_turn, refl, suc, system_after, system_run, system_turn, zero, ℕ, [], ◌++◌, ◌==◌, ◌∙◌, ◌∷◌, ◌≡◌}

pub system_after-one_more : (program : Program) (w : World) (actors : List ℕ) (actor : ℕ)
    → system_after program w (actors ++ actor ∷ []) ≡ (system_turn program (system_after program w actors) actor).world
system_after-one_more program w [] actor = refl
system_after-one_more program w (a ∷ actors) actor =
    system_after-one_more program (system_turn program w a).world actors actor

pub system_run-one_more : (program : Program) (history : List ℕ) (actor : ℕ)
    → system_run program (history ++ actor ∷ []) ≡ (system_turn program (system_run program history) actor).world
system_run-one_more program history actor = system_after-one_more program (opening_world program) history actor

-- a turn that is answered by a reply is one more in the history
answered-more : (program : Program) (w : World) (actor : ℕ) (e : Event) (r : Reply)
    → (system_turn program w actor).answer ≡ Answered e r
    → (system_turn program w actor).world.history ≡ w.history ++ actor ∷ []
answered-more program w zero e r is = from w.commands is
  where
    from : (cs : List Command) → (console_turn program w cs).answer ≡ Answered e r
        → (console_turn program w cs).world.history ≡ w.history ++ 0 ∷ []
    from [] told = cc
    from (c ∷ cs) told = refl
answered-more program w (suc n) e r is =
    let no : (suc n == 0) ≡ false = ne_eqb (suc n) 0 (λ x. omega arith) in
    let turn : system_turn program w (suc n) ≡ processor_turn w (suc n) (actor_event program w (suc n)) = rw no refl in
    ap (λ (t : TurnMade). t.world.history) turn

-- so the history of a run is what it was run over, if each turn was answered
pub past-more : (program : Program) (history : List ℕ) (actor : ℕ) (e : Event) (r : Reply)
    → (system_run program history).history ≡ history
    → (system_turn program (system_run program history) actor).answer ≡ Answered e r
    → (system_run program (history ++ actor ∷ [])).history ≡ history ++ actor ∷ []
past-more program history actor e r past is =
    ap (λ (w : World). w.history) (system_run-one_more program history actor)
    ∙ answered-more program (system_run program history) actor e r is ∙ ap (λ h. h ++ actor ∷ []) past
