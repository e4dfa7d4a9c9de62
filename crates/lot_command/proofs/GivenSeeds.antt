-- An input with other seeds is refused or played as with its own.
use Rattle.lot_command.proofs.Common.{Err, InputFault, IoFault, List, Ok, Option, Played, Plays, Program, Refused, Result, View, Watch, came_of, fault_line, program_in, refl, seeded, shown_of, subst, sym, text_of, ℕ, ◌≡◌}

pub came_seeded : (seed : Option ℕ) (input : Result Program InputFault) → came_of (seeded seed input) ≡ came_of input
came_seeded seed (Ok program) = refl
came_seeded seed (Err fault) = refl

-- the line of a refused input is its text in each view, with any seed
pub refused-shown : {T : Type 0} (contents : T → Option (List ℕ)) (old new : Watch T) (result : Result Played IoFault)
    (view : View) (title : List ℕ) (seed : Option ℕ) (bytes : List ℕ) (fault : InputFault)
    → seeded seed (program_in bytes) ≡ Err fault → Plays contents old new result Refused (fault_line fault)
    → Plays contents old new result (came_of (program_in bytes)) (text_of view title seed bytes)
refused-shown contents old new result view title seed bytes fault is plays =
    subst (λ (came : Played). Plays contents old new result came (text_of view title seed bytes))
    (came_seeded seed (program_in bytes))
    (subst (λ (given : Result Program InputFault).
    Plays contents old new result (came_of given) (shown_of view title given)) (sym is) plays)
