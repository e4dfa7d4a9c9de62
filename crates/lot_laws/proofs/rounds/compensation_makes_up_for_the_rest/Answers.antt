use Rattle.lot_laws.proofs.Lemmas.{IsJustBelow, all-parts, ap, leaves-compensated, subst, sym, value_of, weighs-one, weighs-part, weight, yielded, ◌*◌, ◌∙◌}
use Rattle.lot_laws.proofs.rounds.compensation_makes_up_for_the_rest.Goals as goal

pub returns-clause-leaves : goal.returns-clause-leaves
returns-clause-leaves c s p t ran used action status exists found compensates whole part passed leaving =
    leaves-compensated s p t ran used exists found compensates whole part action status passed leaving

pub returns-clause-yields : goal.returns-clause-yields
returns-clause-yields c s p t ran used exists found compensates whole part =
    yielded s p t ran used exists found compensates whole part

pub returns-clause-weighs : goal.returns-clause-weighs
returns-clause-weighs c s t used compensated low high =
    subst (λ o. IsJustBelow (value_of s t * s.limits.quantum) used (weight (value_of s t) o s.limits.quantum * used))
    (sym compensated) (weighs-part (value_of s t) used s.limits.quantum low high)

pub returns-clause-late : goal.returns-clause-late
returns-clause-late c s t used compensated some late =
    ap (λ o. weight (value_of s t) o s.limits.quantum) compensated
    ∙ weighs-one (value_of s t) used s.limits.quantum some late

pub returns-clause-ticks : goal.returns-clause-ticks
returns-clause-ticks c s p t used exists free ready compensated low high =
    all-parts s p t used exists free low high ready compensated
