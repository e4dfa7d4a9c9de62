use Rattle.lot_script.proofs.Lemmas.{arith, copies-all, copies-as_many, copies-next, copies-there, refl, sym, ◌∙◌}
use Rattle.lot_script.proofs.open_loops.are_copies.Goals as goal

pub returns-then-loops-firsts : goal.returns-then-loops-firsts
returns-then-loops-firsts c = (λ h. cc, λ copies. absurd (c.if-loops-firsts.true (copies-as_many _ _ copies)))

pub returns-then-not-is_copy : goal.returns-then-not-is_copy
returns-then-not-is_copy c =
    (λ h. cc, λ copies. sym c.if-not-is_copy.true ∙ c.is_copy.ensures.1 (copies-there _ _ _ _ c.loop-i-test.true (omega (arith, c.loop-i-test.true, c.if-loops-firsts.false)) copies))

pub loop-i-preserved : goal.loop-i-preserved
loop-i-preserved c = copies-next _ _ _ _ c.loop-i.invariant c.loop-i-test.true
    (omega (arith, c.loop-i-test.true, c.if-loops-firsts.false)) (c.is_copy.ensures.0 c.if-not-is_copy.false)

pub returns : goal.returns
returns c = (λ h. copies-all _ _ _ c.loop-i-test.false c.if-loops-firsts.false c.loop-i.invariant, λ copies. refl)
