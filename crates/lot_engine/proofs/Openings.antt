-- A system with no turn holds its program's opening world.
use Rattle.lot_engine.proofs.Common.{IsCount, IsHeld, List, Place, Program, State, arith, opening, opening_world, refl, replicate, subst, sym, system_run, ℕ, [], ◌≡◌}

opens : (program : Program) → IsHeld program (opening_world program)
    (opening program.limits) [] program.seeds (replicate program.ticket_names 0) 0
opens program = record {
  state = refl;
  kept = record { limits = refl; records = refl; count = omega arith };
  places_at = tt;
  seeds = refl;
  wide = refl;
  commands = refl;
  names = refl;
  tickets_are = refl;
}

pub opening-held : (program : Program) (history : List ℕ) (state : State) (places : List Place)
    (generators tickets : List ℕ) → history ≡ [] → state ≡ opening program.limits → places ≡ []
    → generators ≡ program.seeds → tickets ≡ replicate program.ticket_names 0
    → IsHeld program (system_run program history) state places generators tickets 0
opening-held program history state places generators tickets none is placed seeded unnamed =
    subst (λ h. IsHeld program (system_run program h) state places generators tickets 0) (sym none)
    (subst (λ s. IsHeld program (opening_world program) s places generators tickets 0) (sym is)
    (subst (λ ps. IsHeld program (opening_world program) (opening program.limits) ps generators tickets 0) (sym placed)
    (subst (λ gs. IsHeld program (opening_world program) (opening program.limits) [] gs tickets 0) (sym seeded)
    (subst (λ ts. IsHeld program (opening_world program) (opening program.limits) [] program.seeds ts 0) (sym unnamed)
    (opens program)))))

-- no turn counts nothing
pub nothing-counted : IsCount [] 0 (record { turns = 0; quanta = 0; idles = 0; ticks = 0 })
nothing-counted = record { exact = refl; small = record { turns = omega arith; quanta = omega arith; idles = omega arith; ticks = omega arith } }
