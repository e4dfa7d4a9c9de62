-- A command refused as full has failed its last check alone.
use Rattle.lot_laws.proofs.Common.{Bool, Full, List, None, Option, Refusal, Some, State, Step, ap, false, first_failing, refl, some-injective, sym, true, unless_refused, [], ◌++◌, ◌∙◌, ◌∷◌, ◌≡◌, ◌≢◌, ◌↔◌}
use Rattle.lot_machine.specs.declared.reply.Reply.TheVariants.{Refused}
use Rattle.lot_machine.proofs.CommandsKept.{AllPass}

-- each of these checks refuses with another reason
abbrev pub AreOther : List (Bool × Refusal) → Type 0
AreOther [] = Unit {0}
AreOther (check ∷ checks) = (check.1 ≢ Full) × AreOther checks

last-fails : (checks : List (Bool × Refusal)) (is_full : Bool) → AreOther checks
    → first_failing (checks ++ (is_full, Full) ∷ []) ≡ Some Full → AllPass checks × (is_full ≡ true)
last-fails [] true others fails = (tt, refl)
last-fails [] false others fails = cc
last-fails (check ∷ checks) is_full (other, others) fails = at (last-fails checks is_full others) check.0 refl
  where
    at : (first_failing (checks ++ (is_full, Full) ∷ []) ≡ Some Full → AllPass checks × (is_full ≡ true)) → (b : Bool)
        → check.0 ≡ b → ((check.0 ≡ false) × AllPass checks) × (is_full ≡ true)
    at rest true is = let first : first_failing ((check ∷ checks) ++ (is_full, Full) ∷ []) ≡ Some check.1 =
        rw is refl in absurd (other (some-injective check.1 Full (sym first ∙ fails)))
    at rest false is = let same : first_failing ((check ∷ checks) ++ (is_full, Full) ∷ [])
        ≡ first_failing (checks ++ (is_full, Full) ∷ []) = rw is refl in
        let (pass, full) = rest (sym same ∙ fails) in ((is, pass), full)

only-last : (checks : List (Bool × Refusal)) (is_full : Bool) → AllPass checks → is_full ≡ true
    → first_failing (checks ++ (is_full, Full) ∷ []) ≡ Some Full
only-last [] is_full pass full = rw full refl
only-last (check ∷ checks) is_full (first, rest) full = rw first (only-last checks is_full rest full)

-- what a refused step says of its refusal, if the step otherwise has another reply
refusal-is : (s : State) (o : Option Refusal) (next : Step) → next.reply ≢ Refused Full
    → (unless_refused s o next).reply ≡ Refused Full → o ≡ Some Full
refusal-is s None next other is = absurd (other is)
refusal-is s (Some refusal) next other is = let same : refusal ≡ Full = cc in ap Some same

-- so a step is refused as full exactly if its last check alone fails
pub full-exactly : (s : State) (checks : List (Bool × Refusal)) (is_full : Bool) (next : Step)
    → next.reply ≢ Refused Full → AreOther checks
    → ((unless_refused s (first_failing (checks ++ (is_full, Full) ∷ [])) next).reply ≡ Refused Full)
    ↔ (AllPass checks × (is_full ≡ true))
full-exactly s checks is_full next other others = (
  λ is. last-fails checks is_full others (refusal-is s (first_failing (checks ++ (is_full, Full) ∷ [])) next other is),
  λ (pass, full). ap (λ o. (unless_refused s o next).reply) (only-last checks is_full pass full),
)
