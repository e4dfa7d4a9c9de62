use Rattle.lot_script.proofs.Common.{Bool, Decides, IsTrue, List, OpenLoop, ap, eq-value, reverse, reverse-reverse, rules, slice_eq-Decides, sym, ◌∙◌, ◌≡◌}
use Rattle.lot_script.proofs.open_loops.OpenLoops.is_same.Goals as goal

-- `==` of two loops decides whether they are equal
loop_eq-decides : (a b : OpenLoop) → Decides (eq-value.it a b) (a ≡ b)
loop_eq-decides a b = search rules

same_in_turn : (xs ys : List OpenLoop) → reverse xs ≡ reverse ys → xs ≡ ys
same_in_turn xs ys same = sym (reverse-reverse xs) ∙ ap reverse same ∙ reverse-reverse ys

both : (result : Bool) (xs ys loops others : List OpenLoop) → Decides result (xs ≡ ys) → reverse xs ≡ loops
    → reverse ys ≡ others
    → (IsTrue result → loops ≡ others) × (loops ≡ others → IsTrue result)
both result xs ys loops others decided here there =
    (λ same. sym here ∙ ap reverse (decided.0 same) ∙ there, λ same. decided.1 (same_in_turn xs ys (here ∙ same ∙ sym there)))

pub returns : goal.returns
returns c =
    let decided : Decides c.eq.result (c.as_slice.result.now ≡ c.as_slice-2.result.now) =
    slice_eq-Decides loop_eq-decides c.as_slice.result.now c.as_slice-2.result.now c.eq.result c.eq.ensures in
    both _ _ _ _ _ decided (ap reverse c.as_slice.ensures.value ∙ c.self.view_is)
    (ap reverse c.as_slice-2.ensures.value ∙ c.other.view_is)
