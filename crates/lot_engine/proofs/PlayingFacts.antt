-- The turns of a schedule.
use Rattle.lot_engine.proofs.Common.{Answered, Event, HasPlayed, IsPlayed, List, Program, Reply, Seen, Setting, TurnMade, World, after_turn, ap, arith, length-append, refl, report, sym, system_run, system_turn, turn_in, world_of, ℕ, [], ◌++◌, ◌∙◌, ◌∷◌, ◌≡◌}
use Rattle.lot_engine.proofs.Runs.{system_run-one_more, past-more}

-- ---- a turn that goes

module _ (old : Seen) (actor : ℕ) (e : Event) (r : Reply) (is : (turn_in old actor).answer ≡ Answered e r) where
  world-after : world_of (after_turn old actor) ≡ (turn_in old actor).world
  world-after = system_run-one_more old.setting.program old.history actor

  pub played-after : IsPlayed old actor (after_turn old actor)
  played-after =
      record {
        setting = refl;
        world = world-after;
        past = λ past. past-more old.setting.program old.history actor e r past is;
        bounded = omega (arith, length-append old.history (actor ∷ []));
      }

-- ---- turns one after another

module _ (program : Program) (actors : List ℕ) (old : Seen) (has : HasPlayed program actors old) (actor : ℕ) where
  pub turn-is : turn_in old actor ≡ system_turn program (system_run program actors) actor
  turn-is = ap (λ (p : Program). system_turn p (world_of old) actor) has.program_is
      ∙ ap (λ (w : World). system_turn program w actor) has.world

  pub played-more : (now : Seen) → IsPlayed old actor now → HasPlayed program (actors ++ actor ∷ []) now
  played-more now is =
      record {
        program_is = ap (λ (x : Setting). x.program) is.setting ∙ has.program_is;
        world = is.world ∙ ap (λ (t : TurnMade). t.world) turn-is ∙ sym (system_run-one_more program actors actor);
        past = is.past has.past;
        bounded = omega (arith, length-append actors (actor ∷ []), is.bounded, has.bounded);
      }

-- the report of a system is that of the history that the turns left
pub report-is : (program : Program) (seen : Seen) → HasPlayed program program.schedule seen
    → report seen.setting.program seen.history ≡ report program (system_run program program.schedule).history
report-is program seen has =
    ap (λ (p : Program). report p seen.history) has.program_is
    ∙ ap (report program) (sym has.past ∙ ap (λ (w : World). w.history) has.world)
